use Rattle.std.proofs.Common.{to_z-of_z}
use Rattle.dual_simplex.proofs.Wide.{wider, product_fits, mixed_fits, mixed_abs, small_abs}
use Rattle.dual_simplex.proofs.arithmetic.mix.Goals as goal

pub overflow_add-result : goal.overflow_add-result
overflow_add-result c =
    let a = c.args in
    let s = c.ranges.scale in
    let t = c.ranges.times in
    let o = c.ranges.own in
    let u = c.ranges.other in
    let s2 = wider a.scale s in
    let t2 = wider a.times t in
    let o2 = wider a.own o in
    let u2 = wider a.other u in
    let p = product_fits a.scale a.own (small_abs a.scale c.requires.scale) o in
    let q = product_fits a.times a.other (small_abs a.times c.requires.times) u in
    simp to_z-of_z (mixed_fits a.scale a.times a.own a.other c.requires.scale c.requires.times o u)

pub returns-clause-value : goal.returns-clause-value
returns-clause-value c =
    let a = c.args in
    let s = c.ranges.scale in
    let t = c.ranges.times in
    let o = c.ranges.own in
    let u = c.ranges.other in
    let s2 = wider a.scale s in
    let t2 = wider a.times t in
    let o2 = wider a.own o in
    let u2 = wider a.other u in
    let p = product_fits a.scale a.own (small_abs a.scale c.requires.scale) o in
    let q = product_fits a.times a.other (small_abs a.times c.requires.times) u in
    let r = mixed_fits a.scale a.times a.own a.other c.requires.scale c.requires.times o u in
    simp to_z-of_z

pub returns-clause-bound : goal.returns-clause-bound
returns-clause-bound c =
    let a = c.args in
    let s = c.ranges.scale in
    let t = c.ranges.times in
    let o = c.ranges.own in
    let u = c.ranges.other in
    let s2 = wider a.scale s in
    let t2 = wider a.times t in
    let o2 = wider a.own o in
    let u2 = wider a.other u in
    let p = product_fits a.scale a.own (small_abs a.scale c.requires.scale) o in
    let q = product_fits a.times a.other (small_abs a.times c.requires.times) u in
    let r = mixed_fits a.scale a.times a.own a.other c.requires.scale c.requires.times o u in
    simp to_z-of_z (mixed_abs a.scale a.times a.own a.other c.requires.scale c.requires.times o u)
