use Rattle.std.proofs.Common.{◌≡◌, true, cond, length, Some, None, sym, ap, ◌∙◌, subst, arith}
use Rattle.std.proofs.lemmas.Bool.{cond-true}
use Rattle.precision.specs.Claims.{is_absent}
use Rattle.rules.specs.Combining.{intersected}
use Rattle.std.specs.List.{slice_get}
use Rattle.rules.specs.Claims.{may_set}
use Rattle.rules.specs.Column.{column, ColumnLaws}
use Rattle.rules.proofs.Merges.{got_may}
use Rattle.set.specs.Viewed.{entries}
use Rattle.set.proofs.Properly.{set_proper}
use Rattle.combine.specs.Combined.{Combines, contradicted}
use Rattle.combine.proofs.Telling.{nth_past, told_settable, given_may, goes_on, stops, ends, combine_owed}
use Rattle.combine.proofs.StatsSetSumCombineSets.combine_sets.Goals as goal

pub joined-requires : goal.joined-requires
joined-requires g c =
    let sums = g.E.Element.sums.has_sums in
    let s = c.in-Some.told in
    record {
      mine = subst (λ x. may_set sums s.stat x ≡ true) (sym c.get.ensures) (got_may sums (entries sums c.loop-place.self) (set_proper sums c.loop-place.self).settable s.stat);
      told = told_settable sums (g.P.StatsProvider.told c.loop-place.other) c.loop-place.place s (g.met.P.StatsProvider.proper c.loop-place.other).settable c.in-Some.ensures.answer;
    }

-- the statements are those that were told at first
pub returns-in_default : goal.returns-in_default
returns-in_default g c =
    let told = g.P.StatsProvider.told in
    absurd (nth_past (told c.loop-place.other) c.loop-place.place c.in_default.ensures.answer (omega (arith, ap length c.loop-place.invariant.0, ap length c.len-len.ensures.steady)))

pub returns-in_default-joined : goal.returns-in_default-joined
returns-in_default-joined g c =
    let sums = g.E.Element.sums.has_sums in
    let k = column g.E.Ordered.order g.E.Sum.Ordered.order g.E.Element.sums in
    let laws : ColumnLaws k = record { ordered = g.met.E.Ordered.ordered; sums_ordered = g.met.E.Sum.Ordered.ordered; narrow = g.met.E.Element.narrow; summed = g.met.E.Element.summed } in
    let told = g.P.StatsProvider.told in
    let all = told c.len-len.new.self in
    let e = entries sums c.args.self.now in
    let es = entries sums c.loop-place.self in
    let owed = combine_owed k all e laws (g.met.P.StatsProvider.proper c.len-len.new.self) (set_proper sums c.args.self.now) in
    let s = c.in-Some.told in
    let given = sym c.in_default-joined.is ∙ c.joined.ensures ∙ ap (λ m. cond (is_absent m) (Some s.claim) (intersected k s.stat m s.claim)) c.get.ensures in
    let done = stops k all e c.loop-place.place es s (set_proper sums c.loop-place.self).settable c.loop-place.invariant.1 (c.in-Some.ensures.answer ∙ ap (λ l. slice_get l c.loop-place.place) c.loop-place.invariant.0) given in
    record {
      combined = subst (λ l. Combines k l e es (contradicted (Some s.stat))) c.len-len.ensures.steady (owed es (contradicted (Some s.stat)) done.0 done.1);
      steady = c.tell.ensures.steady ∙ c.loop-place.invariant.0 ∙ c.len-len.ensures.steady;
    }

pub loop-place-preserved : goal.loop-place-preserved
loop-place-preserved g c =
    let sums = g.E.Element.sums.has_sums in
    let k = column g.E.Ordered.order g.E.Sum.Ordered.order g.E.Element.sums in
    let told = g.P.StatsProvider.told in
    let all = told c.len-len.new.self in
    let e = entries sums c.args.self.now in
    let es = entries sums c.loop-place.self in
    let s = c.in-Some.told in
    let i = c.loop-place.place in
    let x = c.in-Some-joined.claim in
    let proper = (set_proper sums c.loop-place.self).settable in
    let given = c.in-Some-joined.ensures ∙ ap (λ m. cond (is_absent m) (Some s.claim) (intersected k s.stat m s.claim)) c.get.ensures in
    let here = c.in-Some.ensures.answer ∙ ap (λ l. slice_get l i) c.loop-place.invariant.0 in
    let may = given_may k all e i es s proper c.loop-place.invariant.1 here (told_settable sums all i s (g.met.P.StatsProvider.proper c.len-len.new.self).settable here) x given in
    (c.tell.ensures.steady ∙ c.loop-place.invariant.0, goes_on k all e i es s proper c.loop-place.invariant.1 here x _ given (c.set.ensures.after ∙ cond-true _ _ _ may))

pub returns : goal.returns
returns g c =
    let sums = g.E.Element.sums.has_sums in
    let k = column g.E.Ordered.order g.E.Sum.Ordered.order g.E.Element.sums in
    let laws : ColumnLaws k = record { ordered = g.met.E.Ordered.ordered; sums_ordered = g.met.E.Sum.Ordered.ordered; narrow = g.met.E.Element.narrow; summed = g.met.E.Element.summed } in
    let told = g.P.StatsProvider.told in
    let all = told c.len-len.new.self in
    let e = entries sums c.args.self.now in
    let es = entries sums c.loop-place.self in
    let owed = combine_owed k all e laws (g.met.P.StatsProvider.proper c.len-len.new.self) (set_proper sums c.args.self.now) in
    let done = ends k all e c.loop-place.place es c.loop-place.invariant.1 (omega (arith, ap length c.len-len.ensures.steady)) in
    record {
      combined = subst (λ l. Combines k l e es None) c.len-len.ensures.steady (owed es None done.0 done.1);
      steady = c.loop-place.invariant.0 ∙ c.len-len.ensures.steady;
    }
