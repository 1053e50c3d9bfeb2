-- Different catalogues have different bytes.
use mathlib.Core.Path.{◌≡◌, refl, ap, ap₂, sym, ◌∙◌}
use mathlib.Core.List.{List, [], ◌∷◌, ◌++◌, append_assoc}
use Prim.Native.Nat.{ℕ, zero, suc, ◌+◌, ◌*◌, ◌/◌, ◌%◌, ◌^◌, ◌<◌}
use native.Mathlib.Nat.{div-one, mod-eq_of_lt}
use native.Mathlib.Omega.{arith}
use lib.ListN.{length, get_or, take, drop}
use lib.Seq.{take-append_seam, drop-append_seam, take_at, drop_at}
use Rattle.laws.specs.Bounded.{Below}
use Rattle.messages.specs.Layout.{bits, bytes_of_object, objects_of, bytes_of}
use Rattle.messages.proofs.Objects.{objects_bytes, length_bytes}
use Rattle.laptop.specs.Catalogue.{Entry, Catalogue}
use Rattle.catalogue.specs.Bytes.{mode_kind, end_kind, svid_bytes, mode_bytes, modes_bytes, entry_bytes, entries_bytes, catalogue_bytes, Each, EntryFits, Representable}

-- two lists of one length, each with more behind it
module _ (p q r s : List ℕ) (l : length p ≡ length q) (e : p ++ r ≡ q ++ s) where
  same_front : p ≡ q
  same_front = sym (take-append_seam p r) ∙ ap (take (length p)) e ∙ take_at q s (length p) (sym l)

  same_rest : r ≡ s
  same_rest = sym (drop-append_seam p r) ∙ ap (drop (length p)) e ∙ drop_at q s (length p) (sym l)

objects_distinct : (vs ws : List ℕ) → Below (2 ^ 32) vs → Below (2 ^ 32) ws → bytes_of vs ≡ bytes_of ws → vs ≡ ws
objects_distinct vs ws hv hw e = sym (objects_bytes vs hv) ∙ ap objects_of e ∙ objects_bytes ws hw

-- the modes end where another kind comes
modes_distinct : (ms ns r s : List ℕ) → Below (2 ^ 32) ms → Below (2 ^ 32) ns →
    (get_or r 0 0 ≡ mode_kind → ⊥) → (get_or s 0 0 ≡ mode_kind → ⊥) → modes_bytes ms ++ r ≡ modes_bytes ns ++ s → (ms ≡ ns) × (r ≡ s)
unfolding modes_bytes mode_bytes bytes_of_object bytes_of
modes_distinct [] [] r s hm hn other other' e = (refl, e)
modes_distinct [] (n ∷ ns) r s hm hn other other' e = absurd (other (ap (λ (l : List ℕ). get_or l 0 0) e))
modes_distinct (m ∷ ms) [] r s hm hn other other' e = absurd (other' (sym (ap (λ (l : List ℕ). get_or l 0 0) e)))
modes_distinct (m ∷ ms) (n ∷ ns) r s hm hn other other' e =
    let one : m ∷ [] ≡ n ∷ [] =
    objects_distinct (m ∷ []) (n ∷ []) (first m ms hm) (first n ns hn) (ap (λ (l : List ℕ). take 4 (drop 1 l)) e) in
    let rest = modes_distinct ms ns r s (λ k. hm (suc k)) (λ k. hn (suc k)) other other' (ap (drop 5) e) in
    (ap₂ (λ (v : ℕ) (vs : List ℕ). v ∷ vs) (ap (λ (l : List ℕ). get_or l 0 0) one) rest.0, rest.1)
  where
    first : (w : ℕ) (ws : List ℕ) → Below (2 ^ 32) (w ∷ ws) → Below (2 ^ 32) (w ∷ [])
    first w ws h zero = h 0
    first w ws h (suc k) = omega arith

svid_back : (s : ℕ) → s < 2 ^ 16 → bits 7 0 s + bits 15 8 s * 256 ≡ s
svid_back s h =
    let low : s / 1 ≡ s = div-one s in
    let high : s / 256 % 256 ≡ s / 256 = mod-eq_of_lt (omega arith) in
    rw (low, high) (omega arith)

svid_distinct : (s t : ℕ) → s < 2 ^ 16 → t < 2 ^ 16 → bits 7 0 s ≡ bits 7 0 t → bits 15 8 s ≡ bits 15 8 t → s ≡ t
svid_distinct s t hs ht low high =
    sym (svid_back s hs) ∙ ap₂ (λ (l : ℕ) (h : ℕ). l + h * 256) low high ∙ svid_back t ht

-- no mode follows an entry, and none the last
no_mode : (entries : List Entry) → get_or (entries_bytes entries ++ end_kind ∷ []) 0 0 ≡ mode_kind → ⊥
unfolding entries_bytes entry_bytes svid_bytes
no_mode [] e = omega arith
no_mode (entry ∷ entries) e = omega arith

entries_distinct : (es fs : List Entry) → Each EntryFits es → Each EntryFits fs →
    entries_bytes es ++ end_kind ∷ [] ≡ entries_bytes fs ++ end_kind ∷ [] → es ≡ fs
unfolding entries_bytes entry_bytes svid_bytes
entries_distinct [] [] he hf e = refl
entries_distinct [] (f ∷ fs) he hf e = absurd (let o : ◌≡◌ {A = ℕ} 0 16 = ap (λ (l : List ℕ). get_or l 0 0) e in omega arith)
entries_distinct (d ∷ es) [] he hf e = absurd (let o : ◌≡◌ {A = ℕ} 16 0 = ap (λ (l : List ℕ). get_or l 0 0) e in omega arith)
entries_distinct (d ∷ es) (f ∷ fs) he hf e =
    let svid : d.svid ≡ f.svid =
    svid_distinct d.svid f.svid he.0.0 hf.0.0 (ap (λ (l : List ℕ). get_or l 1 0) e) (ap (λ (l : List ℕ). get_or l 2 0) e) in
    let behind : modes_bytes d.modes ++ (entries_bytes es ++ end_kind ∷ []) ≡ modes_bytes f.modes ++ (entries_bytes fs ++ end_kind ∷ []) =
    sym (append_assoc (modes_bytes d.modes) (entries_bytes es) (end_kind ∷ [])) ∙ ap (drop 3) e ∙
    append_assoc (modes_bytes f.modes) (entries_bytes fs) (end_kind ∷ []) in
    let parts = modes_distinct d.modes f.modes _ _ he.0.1 hf.0.1 (no_mode es) (no_mode fs) behind in
    ap₂ (λ (entry : Entry) (entries : List Entry). entry ∷ entries)
    (ap₂ (λ (s : ℕ) (ms : List ℕ). record { svid = s; modes = ms }) svid parts.0)
    (entries_distinct es fs he.1 hf.1 parts.1)

pub catalogues_distinct : (c d : Catalogue) → Representable c → Representable d → catalogue_bytes c ≡ catalogue_bytes d → c ≡ d
unfolding catalogue_bytes
catalogues_distinct c d hc hd e =
    let kind : length c.identity ≡ length d.identity = ap (λ (l : List ℕ). get_or l 0 0) e in
    let p : List ℕ = bytes_of c.identity in
    let q : List ℕ = bytes_of d.identity in
    let r : List ℕ = entries_bytes c.entries ++ end_kind ∷ [] in
    let s : List ℕ = entries_bytes d.entries ++ end_kind ∷ [] in
    let size : length p ≡ length q = omega (arith, length_bytes c.identity, length_bytes d.identity) in
    let behind : p ++ r ≡ q ++ s =
    sym (append_assoc p (entries_bytes c.entries) (end_kind ∷ [])) ∙ ap (drop 1) e ∙
    append_assoc q (entries_bytes d.entries) (end_kind ∷ []) in
    ap₂ (λ (objects : List ℕ) (entries : List Entry). record { identity = objects; entries = entries })
    (objects_distinct c.identity d.identity hc.identity_fits hd.identity_fits (same_front p q r s size behind))
    (entries_distinct c.entries d.entries hc.entries_fit hd.entries_fit (same_rest p q r s size behind))
