-- Each public call of the port: two results that its promise allows are equal, with all that is lent afterwards.
use mathlib.Core.Path.{◌≡◌, sym, ◌∙◌}
use mathlib.Core.List.{List}
use Prim.Native.Nat.{ℕ}
use lib.ListN.{length, replicate}
use Rattle.laws.proofs.Tight.{one_value}
use Rattle.laptop.specs.Calls.{Decision}
use Rattle.laptop.specs.Marks.{reported}
use Rattle.laptop.specs.State.{Memory}
use Rattle.laptop.specs.Step.{Step as LaptopAsStep}
use Rattle.laptop.specs.declared.Laptop.{Laptop}
use Rattle.catalogue.specs.Bytes.{held_catalogue, CatalogueWritten}
use Rattle.catalogue.proofs.Laws.{write_only}
use Rattle.port.specs.Calls.{HearsOn, Owners, concerning}
use Rattle.port.specs.Sides.{own_of, seen, stepped_on, fresh_port}
use Rattle.port.specs.declared.Port.{Port}
use Rattle.port.specs.declared.Side.{Side}
use Rattle.port.specs.Step.{Step}
use Rattle.demands.proofs.LaptopTight.{One, OneWith}

module _ (side : Side) (p : Port) where
  -- next, start over, drop, enter and exit, by what 01's call decides
  pub owners_only : (decide : Laptop → Decision) (run held_run out : List ℕ) → OneWith (Owners side p decide run held_run out)
  owners_only decide run held_run out = λ s other after after' a b. (a.step_is ∙ sym b.step_is, a.buffer_is ∙ sym b.buffer_is)

  pub message_on_only : (m : Memory) (bytes : List ℕ) → OneWith (λ (s : Step) (after : Memory). HearsOn side p bytes (record { entry = m; exit = after }) s)
  message_on_only m bytes s other after after' a b = (a.0 ∙ sym b.0, a.1 ∙ sym b.1)

  pub report_on_only : (held_svids entered : List ℕ) (svid : ℕ) → One (λ (n : ℕ). n ≡ reported (own_of side p).held held_svids entered svid)
  report_on_only held_svids entered svid = λ result other. one_value

  pub catalogue_on_only : (held_identity held_svids held_modes held_run out : List ℕ) →
      OneWith (CatalogueWritten (held_catalogue (own_of side p).held held_identity held_svids held_modes held_run) (length held_run) out)
  catalogue_on_only held_identity held_svids held_modes held_run out = write_only _ (length held_run) out

  pub seen_only : One (λ (l : Laptop). l ≡ seen side p)
  seen_only = λ result other. one_value

  pub stepped_on_only : (given : LaptopAsStep) → One (λ (s : Step). s ≡ stepped_on side p given)
  stepped_on_only given = λ result other. one_value

-- the timers and the protocol error
pub concerning_only : (decide : Laptop → Decision) (p : Port) → One (λ (s : Step). s ≡ concerning decide p)
concerning_only decide p = λ result other. one_value

-- a fresh port, with the entered modes that it is lent for each side
pub fresh_port_only : (result other : Port) (partner partner' cable cable' : List ℕ) →
    (result ≡ fresh_port) × (partner ≡ replicate 72 0) × (cable ≡ replicate 72 0) →
    (other ≡ fresh_port) × (partner' ≡ replicate 72 0) × (cable' ≡ replicate 72 0) → (result ≡ other) × (partner ≡ partner') × (cable ≡ cable')
fresh_port_only result other partner partner' cable cable' a b = (a.0 ∙ sym b.0, a.1 ∙ sym b.1, a.2 ∙ sym b.2)
