-- `go` meets its promise.
use mathlib.Core.Path.{◌≡◌, refl, sym, ◌∙◌}
use mathlib.Core.Bool.{true, false}
use native.Mathlib.Omega.{arith}
use Rattle.std.proofs.lemmas.Grind.{common_steps}
use Rattle.records.specs.Refused.{refusal_for}
use Rattle.judging.specs.Walking.{is_end}
use Rattle.judging.proofs.Underway.{underway_front, the_end, other_end, missing_whole, missing_number, stops_unfound, stops_cut, stops_out_of_order, passes, goes_on, nearer, stops_ended}
use Rattle.judging.proofs.walk.Walk.go.Goals as goal
use Rattle.judging.proofs.walk.Walk.go.Goals.{in-End, in_default}

pub loop-self-init : goal.loop-self-init
loop-self-init c = underway_front c.args.bytes.now _ _ _ c.requires.0 c.requires.1 c.requires.2

pub returns-in-Err : goal.returns-in-Err
returns-in-Err c =
    let missing = c.in-Err.missing in
    let e : c.from.result ≡ refusal_for missing = grind (arith, common_steps) in
    rw e (stops_unfound c.loop-self.invariant _ c.in-Err.ensures (missing_whole missing) _ (missing_number missing) _ refl)

pub returns-then-not-may_follow : goal.returns-then-not-may_follow
returns-then-not-may_follow c =
    stops_out_of_order c.loop-self.invariant _ c.in-Ok.ensures _ _ refl (sym c.may_follow.ensures ∙ c.if-not-may_follow.true) _ refl

pub passed-requires : goal.passed-requires
passed-requires c =
    passes c.loop-self.invariant _ c.in-Ok.ensures _ _ refl (sym c.may_follow.ensures ∙ c.if-not-may_follow.false) (omega (arith, c.well_formed))

pub returns-then-matches : goal.returns-then-matches
returns-then-matches c =
    let done = c.passed.ensures in
    let ends : is_end c.in-Ok.field-0.record ≡ true =
    elim c.match-matches.branch [ in-End w ↦ the_end _ w.in-End.is | in_default w ↦ cc ] in
    stops_ended c.loop-self.invariant _ c.in-Ok.ensures _ _ refl (sym c.may_follow.ensures ∙ c.if-not-may_follow.false) _ _ _
    done.0 done.1 done.2 ends _ c.end_check.ensures _ refl

pub loop-self-smaller : goal.loop-self-smaller
loop-self-smaller c =
    let done = c.passed.ensures in
    let near = nearer c.loop-self.invariant _ c.in-Ok.ensures _ _ refl (sym c.may_follow.ensures ∙ c.if-not-may_follow.false) _ _ _
    done.0 done.1 done.2 in
    omega (arith, near.0, near.1)

pub loop-self-preserved : goal.loop-self-preserved
loop-self-preserved c =
    let done = c.passed.ensures in
    let goes : is_end c.in-Ok.field-0.record ≡ false =
    elim c.match-matches.branch [ in-End w ↦ cc | in_default w ↦ other_end _ w.in_default.not-End ] in
    goes_on c.loop-self.invariant _ c.in-Ok.ensures _ _ refl (sym c.may_follow.ensures ∙ c.if-not-may_follow.false) _ _ _
    done.0 done.1 done.2 goes

pub returns : goal.returns
returns c = stops_cut c.loop-self.invariant c.loop-self-test.false _ refl
