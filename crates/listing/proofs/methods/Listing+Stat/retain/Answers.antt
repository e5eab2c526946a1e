use Rattle.std.proofs.Common.{◌≤◌, length, false, slice_index_or, sym, ap, ◌∙◌, arith}
use Rattle.stat.specs.declared.Stat.TheVariants.{IsConstant}
use Rattle.listing.specs.Listed.{listed}
use Rattle.listing.specs.Marks.{marked}
use Rattle.listing.proofs.Listings.{listed_few, pushed_kept, passed_over}
use Rattle.listing.proofs.methods.Listing+Stat.retain.Goals as goal
use Rattle.listing.proofs.methods.Listing+Stat.retain.Goals.{then-keep-number, else-keep-number}

pub loop-stat-preserved : goal.loop-stat-preserved
loop-stat-preserved c =
    let marks = c.args.keep.now in
    let xs = c.as_slice-stat-items.result.now in
    let few : length xs ≤ 9 = omega (arith, ap length c.as_slice-stat-items.ensures, listed_few c.args.self.now) in
    let mark = ap (λ n. slice_index_or marks n false) (sym c.number.ensures) in
    elim c.if-keep-number.branch [
      | then-keep-number w ↦ ap listed w.chosen-is ∙ w.push.ensures ∙ pushed_kept (marked marks) xs 9 few c.loop-stat.stat-index IsConstant (omega arith) (listed c.loop-stat.chosen) c.loop-stat.invariant (mark ∙ w.if-keep-number.true)
      | else-keep-number w ↦ ap listed w.chosen-is ∙ passed_over (marked marks) xs 9 few c.loop-stat.stat-index IsConstant (omega arith) (listed c.loop-stat.chosen) c.loop-stat.invariant (mark ∙ w.if-keep-number.false)
    ]
