-- An answer arrives before the dock has heard of it, or after it has heard "sent": what becomes of the course of the gathering.
use mathlib.Core.Logic.{◌⊎◌, inl, inr}
use mathlib.Core.Path.{◌≡◌, refl, ap, sym, ◌∙◌, subst}
use mathlib.Core.Bool.{Bool, true, false, not, false≢true}
use mathlib.Core.List.{List}
use Prim.Native.Nat.{ℕ, ◌+◌, ◌*◌, ◌≤◌}
use native.Mathlib.Omega.{arith}
use lib.ListN.{length, take}
use Rattle.pages.specs.Pages.{is_last}
use Rattle.dock.specs.declared.Standing.{Standing}
use Rattle.dock.specs.declared.Standing.TheVariants.{Ready, Asking, Sending}
use Rattle.unharmed.proofs.Course.{FairAnswer, identity_ack, page_ack, modes_ack, mode_ack, list_nak, busy_to, is_page, Carried, nothing, under_way, sure, arrived, Quiet, Settled, moves_on, At, Course, even, undecided, early, last_no, arrived_as, lost_as, page_arrived, page_sure, other_arrived, other_sure}

-- the page of a confirmed page
abbrev page_of : Carried → ℕ
page_of nothing = 0
page_of (under_way a) = 0
page_of (sure identity_ack) = 0
page_of (sure (page_ack p)) = p
page_of (sure (modes_ack svid)) = 0
page_of (sure (mode_ack r)) = 0
page_of (sure list_nak) = 0
page_of (sure (busy_to r)) = 0
page_of (arrived b) = 0

module _ (list : List ℕ) where
  -- the answer's fate and the confirmations lost, once it has arrived, and the course then: whether it is a page that was counted and is not the last
  pub record Arrival (t : Standing) (q z : ℕ) (a : FairAnswer) (v : Carried) : Type 0 where
    pub fate_then : Bool → Carried
    pub lost_then : Bool → ℕ
    pub lost_no : lost_then false ≡ z
    pub settled_no : Settled (fate_then false)
    pub quiet_no : is_page a ≡ false → Quiet t (fate_then false)
    pub other : (g : List ℕ) (k : ℕ) → is_page a ≡ false → Course list g k t q v z → Course list g k t q (fate_then false) z
    pub stands_at : (g : List ℕ) (k p : ℕ) → a ≡ page_ack p → Course list g k t q v z → At list g k p z
    pub more : (g : List ℕ) (k p : ℕ) → a ≡ page_ack p → Course list g k t q v z → (g' : List ℕ) (k' : ℕ) → g' ≡ take (p * 12 + 12) list →
        p * 12 + 12 ≤ length list → k' ≡ p + 1 + z → Course list g' k' t q (fate_then (not (is_last list q))) (lost_then (not (is_last list q)))
    pub last : (g : List ℕ) (k p : ℕ) → a ≡ page_ack p → Course list g k t q v z → is_last list p ≡ true →
        Settled (fate_then (not (is_last list q))) × (lost_then (not (is_last list q)) ≡ z)

  module _ (t : Standing) (q z : ℕ) (a : FairAnswer) (given : (p : ℕ) → a ≡ page_ack p → p ≡ q) (tie : (t ≡ Sending (is_page a)) ⊎ (t ≡ Ready)) where
    pub lost_same : (x : Standing) → lost_as list x false z ≡ z
    lost_same Ready = refl
    lost_same (Asking r) = refl
    lost_same (Sending b) = refl

    pub settled_same : (x : Standing) → Settled (arrived_as list x false)
    settled_same Ready = tt
    settled_same (Asking r) = tt
    settled_same (Sending b) = tt

    pub quiet_same : (x : Standing) → (x ≡ Sending false) ⊎ (x ≡ Ready) → Quiet x (arrived_as list x false)
    quiet_same Ready e = tt
    quiet_same (Asking r) e = tt
    quiet_same (Sending false) e = tt
    quiet_same (Sending true) (inl e) = let o : ◌≡◌ {A = ℕ} 0 1 = cc in absurd (omega arith)
    quiet_same (Sending true) (inr e) = let o : ◌≡◌ {A = ℕ} 0 1 = cc in absurd (omega arith)

    pub tied : (b : Bool) → is_page a ≡ b → (t ≡ Sending b) ⊎ (t ≡ Ready)
    tied b e = subst (λ (x : Bool). (t ≡ Sending x) ⊎ (t ≡ Ready)) e tie

    pub on_time_at : (g : List ℕ) (k p : ℕ) → a ≡ page_ack p → Course list g k t q (under_way a) z → At list g k p z
    on_time_at g k p e (even x y) = subst (λ (n : ℕ). At list g k n z) (sym (given p e)) x
    on_time_at g k p e (undecided x h c s f) = let o : ◌≡◌ {A = ℕ} 0 1 = cc in absurd (omega arith)
    on_time_at g k p e (early n x f s) = let o : ◌≡◌ {A = ℕ} 0 1 = cc in absurd (omega arith)

    pub on_time_more : (g : List ℕ) (k p : ℕ) → a ≡ page_ack p → Course list g k t q (under_way a) z → (g' : List ℕ) (k' : ℕ) → g' ≡ take (p * 12 + 12) list →
        p * 12 + 12 ≤ length list → k' ≡ p + 1 + z →
        Course list g' k' t q (arrived_as list t (not (is_last list q))) (lost_as list t (not (is_last list q)) z)
    on_time_more g k p e c g' k' eg h ek =
        let same : p ≡ q = given p e in
        let before : is_last list q ≡ false = ap (is_last list) (sym same) ∙ last_no list p h in
        subst (λ (b : Bool). Course list g' k' t q (arrived_as list t (not b)) (lost_as list t (not b) z)) (sym before)
        (page_arrived list z t (tied true (ap is_page e)) (eg ∙ ap (λ (n : ℕ). take (n * 12 + 12) list) same) (omega arith) (omega arith))

    -- before the dock has heard "sent"
    unfoldable pub on_time : Arrival t q z a (under_way a)
    on_time =
        record {
          fate_then = arrived_as list t;
          lost_then = λ b. lost_as list t b z;
          lost_no = lost_same t;
          settled_no = settled_same t;
          quiet_no = λ e. quiet_same t (tied false e);
          other = λ g k e c. other_arrived list t a (tied false e) c;
          stands_at = on_time_at;
          more = on_time_more;
          last = λ g k p e c x.
              let at_last : is_last list q ≡ true = ap (is_last list) (sym (given p e)) ∙ x in (
                subst (λ (b : Bool). Settled (arrived_as list t (not b))) (sym at_last) (settled_same t),
                ap (λ (b : Bool). lost_as list t (not b) z) at_last ∙ lost_same t,
              );
        }

  module _ (t : Standing) (q z : ℕ) (a : FairAnswer) where
    pub sure_at : (g : List ℕ) (k p : ℕ) → a ≡ page_ack p → Course list g k t q (sure a) z → At list g k p z × (q ≡ moves_on list true p)
    sure_at g k p e (even x y) = absurd (false≢true (sym y ∙ ap is_page e))
    sure_at g k p e (undecided x h c s f) = let o : ◌≡◌ {A = ℕ} 0 1 = cc in absurd (omega arith)
    sure_at g k p e (early n x f s) =
        let same : n ≡ p = ap page_of (sym f ∙ ap sure e) in
        (subst (λ (i : ℕ). At list g k i z) same x, s ∙ ap (moves_on list true) same)

    -- after it has
    unfoldable pub confirmed_first : Arrival t q z a (sure a)
    confirmed_first =
        record {
          fate_then = λ b. nothing;
          lost_then = λ b. z;
          lost_no = refl;
          settled_no = tt;
          quiet_no = λ e. tt;
          other = λ g k e c. other_sure list a e c;
          stands_at = λ g k p e c. (sure_at g k p e c).0;
          more = λ g k p e c g' k' eg h ek. page_sure list p t q (sure_at g k p e c).1 eg h ek;
          last = λ g k p e c x. (tt, refl);
        }
