-- What a side sees once a laptop has been put back.
use mathlib.Core.Path.{◌≡◌, refl, ap, sym, ◌∙◌}
use mathlib.Core.Bool.{true, false, false≢true}
use Rattle.laptop.specs.Calls.{is_awaiting}
use Rattle.laptop.specs.declared.Laptop.{Laptop}
use Rattle.std.specs.Prelude.{Option, Some, None}
use Rattle.messages.specs.declared.request.Request.{Request}
use Rattle.port.specs.Calls.{is_waiting, waiting_side}
use Rattle.port.specs.Sides.{Wait, same_side, is_others, wait_seen, wait_put, own_of, own_in, laptop_with, seen, with_own, put_back}
use Rattle.port.specs.declared.Own.{Own}
use Rattle.port.specs.declared.Port.{Port}
use Rattle.port.specs.declared.Side.{Side}
use Rattle.port.specs.declared.Side.TheVariants.{Partner, Cable}

-- what the other side sees of the wait stays
wait_other : (s t : Side) (after : Option Request) (w : Wait) → same_side s t ≡ false → wait_seen t (wait_put s after w) ≡ wait_seen t w
wait_other Partner Partner after w e = absurd (false≢true (sym e))
wait_other Partner Cable None None e = refl
wait_other Partner Cable (Some r) None e = refl
wait_other Partner Cable None (Some (Partner, q)) e = refl
wait_other Partner Cable (Some r) (Some (Partner, q)) e = refl
wait_other Partner Cable after (Some (Cable, q)) e = refl
wait_other Cable Partner None None e = refl
wait_other Cable Partner (Some r) None e = refl
wait_other Cable Partner None (Some (Cable, q)) e = refl
wait_other Cable Partner (Some r) (Some (Cable, q)) e = refl
wait_other Cable Partner after (Some (Partner, q)) e = refl
wait_other Cable Cable after w e = absurd (false≢true (sym e))

own_other : (s t : Side) (w : Wait) (own : Own) (p : Port) → same_side s t ≡ false → own_of t (with_own s w own p) ≡ own_of t p
own_other Partner Partner w own p e = absurd (false≢true (sym e))
own_other Partner Cable w own p e = refl
own_other Cable Partner w own p e = refl
own_other Cable Cable w own p e = absurd (false≢true (sym e))

wait_with : (s : Side) (w : Wait) (own : Own) (p : Port) → (with_own s w own p).wait ≡ w
wait_with Partner w own p = refl
wait_with Cable w own p = refl

pub wait_after : (s : Side) (l : Laptop) (p : Port) → (put_back s l p).wait ≡ wait_put s l.wait p.wait
unfolding put_back
wait_after s l p = wait_with s (wait_put s l.wait p.wait) (own_in l) p

-- nothing of the other side changes, whatever is put back
pub other_unchanged : (s t : Side) (l : Laptop) (p : Port) → same_side s t ≡ false → seen t (put_back s l p) ≡ seen t p
unfolding seen put_back
other_unchanged s t l p e =
    let w = wait_put s l.wait p.wait in
    ap (λ (x : Wait). laptop_with (wait_seen t x) (own_of t (with_own s w (own_in l) p))) (wait_with s w (own_in l) p) ∙
    ap (λ (x : Option Request). laptop_with x (own_of t (with_own s w (own_in l) p))) (wait_other s t l.wait p.wait e) ∙
    ap (laptop_with (wait_seen t p.wait)) (own_other s t w (own_in l) p e)

-- a side sees what it has put back, unless the other waits and it awaits something
wait_own : (s : Side) (after : Option Request) (w : Wait) → is_others s w ≡ false → wait_seen s (wait_put s after w) ≡ after
wait_own Partner None None e = refl
wait_own Partner (Some r) None e = refl
wait_own Partner None (Some (Partner, q)) e = refl
wait_own Partner (Some r) (Some (Partner, q)) e = refl
wait_own Partner after (Some (Cable, q)) e = absurd (false≢true (sym e))
wait_own Cable None None e = refl
wait_own Cable (Some r) None e = refl
wait_own Cable after (Some (Partner, q)) e = absurd (false≢true (sym e))
wait_own Cable None (Some (Cable, q)) e = refl
wait_own Cable (Some r) (Some (Cable, q)) e = refl

own_own : (s : Side) (w : Wait) (own : Own) (p : Port) → own_of s (with_own s w own p) ≡ own
own_own Partner w own p = refl
own_own Cable w own p = refl

wait_idle : (s : Side) (w : Wait) → is_others s w ≡ true → wait_seen s (wait_put s None w) ≡ None
wait_idle s None e = absurd (false≢true e)
wait_idle Partner (Some (Partner, q)) e = absurd (false≢true e)
wait_idle Partner (Some (Cable, q)) e = refl
wait_idle Cable (Some (Partner, q)) e = refl
wait_idle Cable (Some (Cable, q)) e = absurd (false≢true e)

module _ (s : Side) (l : Laptop) (p : Port) where
  put_with : wait_seen s (wait_put s l.wait p.wait) ≡ l.wait → seen s (put_back s l p) ≡ l
  unfolding seen put_back
  put_with e =
      let w = wait_put s l.wait p.wait in
      ap (λ (x : Wait). laptop_with (wait_seen s x) (own_of s (with_own s w (own_in l) p))) (wait_with s w (own_in l) p) ∙
      ap (λ (x : Option Request). laptop_with x (own_of s (with_own s w (own_in l) p))) e ∙ ap (laptop_with l.wait) (own_own s w (own_in l) p)

  pub seen_put : is_others s p.wait ≡ false → seen s (put_back s l p) ≡ l
  seen_put e = put_with (wait_own s l.wait p.wait e)

  pub seen_put_idle : is_others s p.wait ≡ true → l.wait ≡ None → seen s (put_back s l p) ≡ l
  seen_put_idle e idle = put_with (ap (λ (x : Option Request). wait_seen s (wait_put s x p.wait)) idle ∙ wait_idle s p.wait e ∙ sym idle)

-- where the other does not wait, it does not afterwards
pub not_others : (s : Side) (l : Laptop) (p : Port) → is_others s p.wait ≡ false → is_others s (put_back s l p).wait ≡ false
unfolding put_back
not_others s l p e = ap (is_others s) (wait_with s (wait_put s l.wait p.wait) (own_in l) p) ∙ go s l.wait p.wait e
  where
    go : (s : Side) (after : Option Request) (w : Wait) → is_others s w ≡ false → is_others s (wait_put s after w) ≡ false
    go Partner None None e = refl
    go Partner (Some r) None e = refl
    go Partner None (Some (Partner, q)) e = refl
    go Partner (Some r) (Some (Partner, q)) e = refl
    go Partner after (Some (Cable, q)) e = absurd (false≢true (sym e))
    go Cable None None e = refl
    go Cable (Some r) None e = refl
    go Cable after (Some (Partner, q)) e = absurd (false≢true (sym e))
    go Cable None (Some (Cable, q)) e = refl
    go Cable (Some r) (Some (Cable, q)) e = refl

-- where the other does not wait, a side sees whether anything is awaited; where it does, the side sees nothing awaited
pub waits_seen : (s : Side) (p : Port) → is_others s p.wait ≡ false → is_waiting p.wait ≡ is_awaiting (seen s p).wait
unfolding seen
waits_seen s p e = go s p.wait e
  where
    go : (s : Side) (w : Wait) → is_others s w ≡ false → is_waiting w ≡ is_awaiting (wait_seen s w)
    go s None e = refl
    go Partner (Some (Partner, q)) e = refl
    go Partner (Some (Cable, q)) e = absurd (false≢true (sym e))
    go Cable (Some (Partner, q)) e = absurd (false≢true (sym e))
    go Cable (Some (Cable, q)) e = refl

pub idle_seen : (s : Side) (p : Port) → is_others s p.wait ≡ true → (seen s p).wait ≡ None
unfolding seen
idle_seen s p e = go s p.wait e
  where
    go : (s : Side) (w : Wait) → is_others s w ≡ true → wait_seen s w ≡ None
    go s None e = absurd (false≢true e)
    go Partner (Some (Partner, q)) e = absurd (false≢true e)
    go Partner (Some (Cable, q)) e = refl
    go Cable (Some (Partner, q)) e = refl
    go Cable (Some (Cable, q)) e = absurd (false≢true e)

pub nothing_seen : (s : Side) (p : Port) → p.wait ≡ None → (seen s p).wait ≡ None
unfolding seen
nothing_seen s p e = ap (wait_seen s) e

-- sides
pub same_side_lem : (s t : Side) → same_side s t ≡ true → s ≡ t
same_side_lem Partner Partner e = refl
same_side_lem Partner Cable e = absurd (false≢true e)
same_side_lem Cable Partner e = absurd (false≢true e)
same_side_lem Cable Cable e = refl

-- a side waits, the other does, or none
pub data Waits (s : Side) (w : Wait) : Type 0 where
  own_waits : waiting_side w ≡ s → is_others s w ≡ false → Waits s w
  other_waits : same_side (waiting_side w) s ≡ false → is_others s w ≡ true → Waits s w
  none_waits : w ≡ None → Waits s w

pub waits : (s : Side) (w : Wait) → Waits s w
waits s None = none_waits refl
waits Partner (Some (Partner, q)) = own_waits refl refl
waits Partner (Some (Cable, q)) = other_waits refl refl
waits Cable (Some (Partner, q)) = other_waits refl refl
waits Cable (Some (Cable, q)) = own_waits refl refl
