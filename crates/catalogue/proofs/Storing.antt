-- A run of stores, one part after the other: where a writing loop stands.
use mathlib.Core.Path.{◌≡◌, ap, ap₂, sym, ◌∙◌}
use mathlib.Core.List.{List, [], ◌++◌}
use Prim.Native.Nat.{ℕ, ◌+◌}
use native.Mathlib.Omega.{arith}
use lib.ListN.{length, length-append}
use lib.Seq.{sets, length-sets}
use Rattle.laws.proofs.Stores.{sets_append}
use Rattle.catalogue.specs.Records.{Put}

-- storing what is left from here gives what storing all of it gives at the start
pub record Storing (start : List ℕ) (place : ℕ) (all out : List ℕ) (at : ℕ) (left : List ℕ) : Type 0 where
  pub ends : at + length left ≡ place + length all
  pub kept : length out ≡ length start
  pub stored : sets out at left ≡ sets start place all

pub storing_next : {start : List ℕ} {place : ℕ} {all out : List ℕ} {at : ℕ} {left : List ℕ} → Storing start place all out at left →
    (part rest : List ℕ) → left ≡ part ++ rest → {next : ℕ} {after : List ℕ} → Put out at part next after → Storing start place all after next rest
storing_next {start} {place} {all} {out} {at} {left} s part rest e {next} {after} p = record {
  ends = omega (arith, s.ends, ap length e, length-append part rest, p.ends);
  kept = ap length p.stored ∙ length-sets out at part ∙ s.kept;
  stored =
      ap₂ (λ (l : List ℕ) (k : ℕ). sets l k rest) p.stored p.ends ∙ sym (sets_append out at part rest) ∙
      ap (λ (l : List ℕ). sets out at l) (sym e) ∙ s.stored;
}

pub storing_end : {start : List ℕ} {place : ℕ} {all out : List ℕ} {at : ℕ} {left : List ℕ} → Storing start place all out at left →
    left ≡ [] → Put start place all at out
storing_end {start} {place} {all} {out} {at} {left} s e = record {
  ends = omega (arith, s.ends, ap length e);
  stored = sym (ap (λ (l : List ℕ). sets out at l) e) ∙ s.stored;
}
