use Rattle.cases_cells.proofs.Leasing.{some_count, given_counts, given_sum}
use Rattle.cases_cells.proofs.tenants.session.give_back.Goals as goal

pub overflow_sub-index_mut : goal.overflow_sub-index_mut
overflow_sub-index_mut c = some_count c.args.desk.now c.args.lease c.args.outs.now.items c.tenant-tenant.result c.index_mut.result.now c.tenant-tenant.ensures
    c.requires.held c.requires.counts c.index_mut.ensures.value

pub returns-clause-counts : goal.returns-clause-counts
returns-clause-counts c = given_counts c.args.desk.now c.give.new.self c.args.lease c.args.outs.now.items c.tenant-tenant.result c.index_mut.result.now
    c.tenant-tenant.ensures c.requires.held c.give.ensures c.requires.counts c.index_mut.ensures.value

pub returns-clause-all : goal.returns-clause-all
returns-clause-all c = given_sum c.args.desk.now c.args.lease c.args.outs.now.items c.tenant-tenant.result c.index_mut.result.now c.tenant-tenant.ensures
    c.requires.held c.requires.counts c.index_mut.ensures.value
