use Rattle.std.proofs.Common.{◌≡◌, ◌+◌, ◌/◌, ◌%◌, ◌++◌, length, drop, refl, ap, sym, ◌∙◌, arith, append-nil}
use Rattle.std.specs.Fmt.{decimal}
use Rattle.std.proofs.lemmas.Fmt.{decimal_digit, decimal_nonempty, length-decimal-le}
use Rattle.std.proofs.lemmas.List.{drop_all}
use Rattle.text.proofs.Decimals.{length_step, drop_put, one_more}
use Rattle.text.proofs.digits.put_digits.Goals as goal

pub loop-rest-init : goal.loop-rest-init
loop-rest-init c =
    let n = c.args.number in (
      omega arith,
      length-decimal-le 20 n (omega arith) (omega (arith, c.ranges.number.fits)) c.ranges.number.fits,
      refl,
      ap (λ after. decimal n ++ after) (drop_all 20 c.args.digits.now (omega arith)) ∙ append-nil (decimal n),
    )

pub overflow_sub-at : goal.overflow_sub-at
overflow_sub-at c = omega (arith, decimal_nonempty c.loop-rest.rest c.loop-rest.auto.rest-fits.fits)

pub loop-rest-preserved : goal.loop-rest-preserved
loop-rest-preserved c =
    let l = c.loop-rest in
    let fits = l.auto.rest-fits.fits in
    let more = length_step l.rest c.loop-rest-test.true fits in
    let some = decimal_nonempty l.rest fits in (
      omega arith,
      omega arith,
      omega arith,
      ap (λ after. decimal (l.rest / 10) ++ after) (drop_put l.digits l.at (48 + l.rest % 10) (omega arith) (omega arith))
          ∙ one_more l.rest (drop l.at l.digits) c.loop-rest-test.true fits
          ∙ l.invariant.3,
    )

pub overflow_sub-at-2 : goal.overflow_sub-at-2
overflow_sub-at-2 c = omega (arith, decimal_nonempty c.loop-rest.rest c.loop-rest.auto.rest-fits.fits)

pub returns-clause-start : goal.returns-clause-start
returns-clause-start c =
    let one : length (decimal c.loop-rest.rest) ≡ 1 = ap length (decimal_digit c.loop-rest.rest (omega arith)) in
    omega arith

pub returns-clause-written : goal.returns-clause-written
returns-clause-written c =
    let l = c.loop-rest in
    drop_put l.digits l.at (48 + l.rest) (omega (arith, decimal_nonempty l.rest l.auto.rest-fits.fits)) (omega arith)
    ∙ ap (λ first. first ++ drop l.at l.digits) (sym (decimal_digit l.rest (omega arith)))
    ∙ l.invariant.3
