use Rattle.tenant_script.specs.Words.{script_view}
use Rattle.tenant_service.proofs.Serving.{can_be_served, is_replied, refused}
use Rattle.tenant_service.proofs.service.serve_tenants.Goals as goal

pub serve_read-requires-after_bounds : goal.serve_read-requires-after_bounds
serve_read-requires-after_bounds g c κs within = can_be_served c.args.input.now (script_view c.in-Ok.script) c.law_of_tenant_scripts.ensures.right c.in-Ok.ensures.found c.requires

pub returns-in-Ok-serve_read : goal.returns-in-Ok-serve_read
returns-in-Ok-serve_read g c = is_replied c.args.input.now (script_view c.in-Ok.script) c.in-Ok-serve_read.text.items c.law_of_tenant_scripts.ensures.one c.in-Ok.ensures.found c.in-Ok-serve_read.ensures

pub returns : goal.returns
returns g c = refused c.args.input.now c.in-Err.stop c.tenants_fault.result c.tenants_fault.ensures c.in-Err.ensures.found
