-- What is awaited, and what goes with it.
use mathlib.Core.Logic.{◌⊎◌, inl, inr}
use mathlib.Core.Path.{◌≡◌, refl, ap, sym, ◌∙◌, subst}
use mathlib.Core.Bool.{Bool, true, false, ◌&&◌, ◌||◌, false≢true}
use mathlib.Core.List.{List}
use Prim.Native.Nat.{ℕ, ◌≤◌}
use native.Mathlib.Omega.{arith}
use lib.Dec.{eqb}
use lib.ListN.{get_or}
use Rattle.messages.specs.Requests.{svids_command, modes_command, same_request}
use Rattle.messages.specs.Table.{pd_sid}
use Rattle.messages.specs.declared.request.Request.{Request}
use Rattle.dock.specs.declared.Dock.{Dock}
use Rattle.hearing.specs.Hearing.{fits, is_late_page}
use Rattle.owner.specs.Owner.{discover}
use Rattle.laptop.specs.State.{is_open, Memory, identity_request}
use Rattle.laptop.specs.declared.Candidate.{Candidate}
use Rattle.laptop.specs.declared.Candidate.TheVariants.{Absent, Open, Done}
use Rattle.laptop.specs.declared.Laptop.{Laptop}
use Rattle.std.specs.Prelude.{Option, Some, None}
use Rattle.laptop_laws.specs.WellFormed.{WaitFits, awaits_identity, WellFormed}
use Rattle.unharmed.proofs.Course.{FairAnswer, identity_ack, page_ack, modes_ack, mode_ack, list_nak, busy_to, is_page}
use Rattle.unharmed.proofs.Invariant.{message_of}

pub and_no : (b : Bool) → (b && false) ≡ false
and_no true = refl
and_no false = refl

pub or_no : (b : Bool) → (b || false) ≡ b
or_no true = refl
or_no false = refl

-- where a list is open and a page comes, it fits or is late
pub no_late_page : (l : Laptop) (x : FairAnswer) (modes_of : ℕ → List ℕ) (d : Dock) (w : Option Request) (pages stored : ℕ) (svids : List ℕ) → l.wait ≡ w → l.candidate ≡ Open →
    WaitFits w l.candidate pages stored svids → fits w (message_of modes_of d x).head ≡ false → is_late_page l (message_of modes_of d x).head ≡ false → is_page x ≡ false
unfolding is_late_page
no_late_page l (page_ack p) modes_of d None pages stored svids ew ec f e n =
    let late : true ≡ false = rw (ew, ec) at n in absurd (false≢true (sym late))
no_late_page l (page_ack p) modes_of d (Some r) pages stored svids ew ec (inl f) e n =
    let y : Absent ≡ Open = sym f.1 ∙ ec in let o : ◌≡◌ {A = ℕ} 0 1 = cc in absurd (omega arith)
no_late_page l (page_ack p) modes_of d (Some r) pages stored svids ew ec (inr (inl f)) e n =
    let same : true ≡ false = sym (ap (λ (x : Request). same_request x (discover pd_sid svids_command)) f.0) ∙ e in absurd (false≢true (sym same))
no_late_page l (page_ack p) modes_of d (Some r) pages stored svids ew ec (inr (inr (inl f))) e n =
    let y : Done ≡ Open = sym f.1 ∙ ec in let o : ◌≡◌ {A = ℕ} 0 1 = cc in absurd (omega arith)
no_late_page l (page_ack p) modes_of d (Some r) pages stored svids ew ec (inr (inr (inr f))) e n =
    let y : Absent ≡ Open = sym f.1 ∙ ec in let o : ◌≡◌ {A = ℕ} 0 1 = cc in absurd (omega arith)
no_late_page l identity_ack modes_of d w pages stored svids ew ec f e n = refl
no_late_page l (modes_ack svid) modes_of d w pages stored svids ew ec f e n = refl
no_late_page l (mode_ack r) modes_of d w pages stored svids ew ec f e n = refl
no_late_page l list_nak modes_of d w pages stored svids ew ec f e n = refl
no_late_page l (busy_to r) modes_of d w pages stored svids ew ec f e n = refl

-- where Identity is awaited, no list is open
pub not_both : (w : Option Request) (c : Candidate) (pages stored : ℕ) (svids : List ℕ) → WaitFits w c pages stored svids → (awaits_identity w ≡ false) ⊎ (is_open c ≡ false)
not_both None c pages stored svids f = inl refl
not_both (Some r) c pages stored svids (inl f) = inr (ap is_open f.1)
not_both (Some r) c pages stored svids (inr (inl f)) = inl (ap (λ (x : Request). eqb x.command 1) f.0)
not_both (Some r) c pages stored svids (inr (inr (inl f))) = inl (ap (λ (x : Request). eqb x.command 1) f.0)
not_both (Some r) c pages stored svids (inr (inr (inr f))) = inr (ap is_open f.1)

-- what goes with what is awaited
module _ (c : Candidate) (pages stored : ℕ) (svids : List ℕ) where
  pub with_identity : WaitFits (Some identity_request) c pages stored svids → (c ≡ Absent) × (pages ≡ 0)
  with_identity (inl f) = (f.1, f.2)
  with_identity (inr (inl f)) = absurd (omega (arith, ap (λ (x : Request). x.command) f.0))
  with_identity (inr (inr (inl f))) = absurd (omega (arith, ap (λ (x : Request). x.command) f.0))
  with_identity (inr (inr (inr f))) = absurd (omega (arith, f.0))

  pub with_svids : WaitFits (Some (discover pd_sid svids_command)) c pages stored svids → c ≡ Open
  with_svids (inl f) = absurd (omega (arith, ap (λ (x : Request). x.command) f.0))
  with_svids (inr (inl f)) = f.1
  with_svids (inr (inr (inl f))) = absurd (omega (arith, ap (λ (x : Request). x.command) f.0))
  with_svids (inr (inr (inr f))) = absurd (omega (arith, f.0))

  pub with_modes : (svid : ℕ) → WaitFits (Some (discover svid modes_command)) c pages stored svids → (c ≡ Done) × (svid ≡ get_or svids stored 0)
  with_modes svid (inl f) = absurd (omega (arith, ap (λ (x : Request). x.command) f.0))
  with_modes svid (inr (inl f)) = absurd (omega (arith, ap (λ (x : Request). x.command) f.0))
  with_modes svid (inr (inr (inl f))) = (f.1, ap (λ (x : Request). x.svid) f.0)
  with_modes svid (inr (inr (inr f))) = absurd (omega (arith, f.0))

  pub with_mode : (r : Request) → 4 ≤ r.command → WaitFits (Some r) c pages stored svids → c ≡ Absent
  with_mode r h (inl f) = f.1
  with_mode r h (inr (inl f)) = absurd (omega (arith, ap (λ (x : Request). x.command) f.0))
  with_mode r h (inr (inr (inl f))) = absurd (omega (arith, ap (λ (x : Request). x.command) f.0))
  with_mode r h (inr (inr (inr f))) = f.1

-- what goes with a request that is awaited
pub awaits : (l : Laptop) (m : Memory) → WellFormed l m → (r : Request) → l.wait ≡ Some r →
    WaitFits (Some r) l.candidate l.pages l.stored m.svids
awaits l m formed r e = subst (λ (w : Option Request). WaitFits w l.candidate l.pages l.stored m.svids) e formed.wait_fits
