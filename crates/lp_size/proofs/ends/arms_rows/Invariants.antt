use Rattle.std.proofs.Common.{◌≡◌, drop, map}
use Rattle.grail_code.specs.Code.{arm_of, func_of, code_of}
use Rattle.lp_size.specs.Counting.{arms_onto}
use Rattle.lp_size.proofs.ends.arms_rows.Given as goal

abbrev pub invariant-arms : goal.invariant-arms
invariant-arms l = arms_onto (code_of l.books.code.now).types (func_of l.here.body.now) l.here.func l.here.block l.slots l.matched l.total (map arm_of (drop l.arm-index l.arms)) ≡ arms_onto (code_of l.books.code.now).types (func_of l.here.body.now) l.here.func l.here.block l.slots l.matched 0 (map arm_of l.arms)
