-- Bytes and objects: each is the other read back.
use mathlib.Core.Path.{◌≡◌, refl, ap₂}
use mathlib.Core.List.{List, [], ◌∷◌, ◌++◌}
use Prim.Native.Nat.{ℕ, zero, suc, ◌+◌, ◌*◌, ◌/◌, ◌%◌, ◌^◌, ◌<◌, ◌≤◌}
use native.Mathlib.Nat.{div-one, div-div-eq-div-mul, mod-eq_of_lt}
use native.Mathlib.Omega.{arith}
use lib.ListN.{length, get_or}
use Rattle.std.specs.Int.{w32, from_le_bytes}
use Rattle.laws.specs.Bounded.{Below}
use Rattle.laws.proofs.Fields.{field}
use Rattle.messages.specs.Layout.{bits, object_of, bytes_of_object, objects_of, bytes_of}

pub object_at : (b : List ℕ) (i : ℕ) → i * 4 + 4 ≤ length b →
    get_or (objects_of b) i 0 ≡ object_of (get_or b (i * 4) 0) (get_or b (i * 4 + 1) 0) (get_or b (i * 4 + 2) 0) (get_or b (i * 4 + 3) 0)
unfolding objects_of
object_at [] i h = absurd (omega arith)
object_at (p ∷ []) i h = absurd (omega arith)
object_at (p ∷ q ∷ []) i h = absurd (omega arith)
object_at (p ∷ q ∷ r ∷ []) i h = absurd (omega arith)
object_at (p ∷ q ∷ r ∷ s ∷ rest) zero h = refl
object_at (p ∷ q ∷ r ∷ s ∷ rest) (suc i) h =
    let e0 : suc i * 4 ≡ suc (suc (suc (suc (i * 4)))) = omega arith in
    let e1 : suc i * 4 + 1 ≡ suc (suc (suc (suc (i * 4 + 1)))) = omega arith in
    let e2 : suc i * 4 + 2 ≡ suc (suc (suc (suc (i * 4 + 2)))) = omega arith in
    let e3 : suc i * 4 + 3 ≡ suc (suc (suc (suc (i * 4 + 3)))) = omega arith in
    rw (e1, e2, e3, e0) (object_at rest i (omega arith))

pub object_past : (b : List ℕ) (i : ℕ) → length b < i * 4 + 4 → get_or (objects_of b) i 0 ≡ 0
unfolding objects_of
object_past [] i h = refl
object_past (p ∷ []) i h = refl
object_past (p ∷ q ∷ []) i h = refl
object_past (p ∷ q ∷ r ∷ []) i h = refl
object_past (p ∷ q ∷ r ∷ s ∷ rest) zero h = absurd (omega arith)
object_past (p ∷ q ∷ r ∷ s ∷ rest) (suc i) h = object_past rest i (omega arith)

-- the library's number is the layout's
pub object_le : (p q r s : ℕ) → from_le_bytes w32 (p ∷ q ∷ r ∷ s ∷ []) ≡ object_of p q r s
object_le p q r s = omega arith

bytes_object : (w : ℕ) → w < 2 ^ 32 → object_of (bits 7 0 w) (bits 15 8 w) (bits 23 16 w) (bits 31 24 w) ≡ w
bytes_object w h =
    let d1 : w / 1 ≡ w = div-one w in
    let d2 : w / 256 / 256 ≡ w / 65536 = div-div-eq-div-mul w 256 256 in
    let d3 : w / 65536 / 256 ≡ w / 16777216 = div-div-eq-div-mul w 65536 256 in
    let e3 : w / 16777216 % 256 ≡ w / 16777216 = mod-eq_of_lt (omega arith) in
    rw d1 (omega arith)

-- objects, written as bytes and read again
pub objects_bytes : (ws : List ℕ) → Below (2 ^ 32) ws → objects_of (bytes_of ws) ≡ ws
unfolding objects_of bytes_of bytes_of_object
objects_bytes [] h = refl
objects_bytes (w ∷ ws) h = ap₂ (λ (v : ℕ) (vs : List ℕ). v ∷ vs) (bytes_object w (h zero)) (objects_bytes ws (λ k. h (suc k)))

pub object_bytes : (p q r s : ℕ) → p < 256 → q < 256 → r < 256 → s < 256 → bytes_of_object (object_of p q r s) ≡ p ∷ q ∷ r ∷ s ∷ []
unfolding bytes_of_object
object_bytes p q r s hp hq hr hs =
    let w : ℕ = object_of p q r s in
    let e0 : bits 7 0 w ≡ p = field w 1 256 (q + r * 256 + s * 65536) p 0 (omega arith) (omega arith) hp in
    let e1 : bits 15 8 w ≡ q = field w 256 256 (r + s * 256) q p (omega arith) hp hq in
    let e2 : bits 23 16 w ≡ r = field w 65536 256 s r (p + q * 256) (omega arith) (omega arith) hr in
    let e3 : bits 31 24 w ≡ s = field w 16777216 256 0 s (p + q * 256 + r * 65536) (omega arith) (omega arith) hs in
    rw (e0, e1, e2, e3)

-- whole bytes, read as objects and written again
pub bytes_objects : (b : List ℕ) → Below 256 b → length b % 4 ≡ 0 → bytes_of (objects_of b) ≡ b
unfolding objects_of bytes_of
bytes_objects [] h e = refl
bytes_objects (p ∷ []) h e = absurd (omega arith)
bytes_objects (p ∷ q ∷ []) h e = absurd (omega arith)
bytes_objects (p ∷ q ∷ r ∷ []) h e = absurd (omega arith)
bytes_objects (p ∷ q ∷ r ∷ s ∷ rest) h e =
    ap₂ (λ (l : List ℕ) (m : List ℕ). l ++ m) (object_bytes p q r s (h 0) (h 1) (h 2) (h 3))
    (bytes_objects rest (λ k. h (suc (suc (suc (suc k))))) (omega arith))

pub length_bytes : (ws : List ℕ) → length (bytes_of ws) ≡ 4 * length ws
unfolding bytes_of bytes_of_object
length_bytes [] = refl
length_bytes (w ∷ ws) = let e = length_bytes ws in omega arith

pub length_objects : (b : List ℕ) → length (objects_of b) ≡ length b / 4
unfolding objects_of
length_objects [] = refl
length_objects (p ∷ []) = refl
length_objects (p ∷ q ∷ []) = refl
length_objects (p ∷ q ∷ r ∷ []) = refl
length_objects (p ∷ q ∷ r ∷ s ∷ rest) = let e = length_objects rest in omega arith

pub bytes_below : (ws : List ℕ) → Below 256 (bytes_of ws)
unfolding bytes_of bytes_of_object
bytes_below [] k = omega arith
bytes_below (w ∷ ws) zero = omega arith
bytes_below (w ∷ ws) (suc zero) = omega arith
bytes_below (w ∷ ws) (suc (suc zero)) = omega arith
bytes_below (w ∷ ws) (suc (suc (suc zero))) = omega arith
bytes_below (w ∷ ws) (suc (suc (suc (suc k)))) = bytes_below ws k

pub objects_below : (b : List ℕ) → Below 256 b → Below (2 ^ 32) (objects_of b)
unfolding objects_of
objects_below [] h k = omega arith
objects_below (p ∷ []) h k = omega arith
objects_below (p ∷ q ∷ []) h k = omega arith
objects_below (p ∷ q ∷ r ∷ []) h k = omega arith
objects_below (p ∷ q ∷ r ∷ s ∷ rest) h zero = omega (arith, h 0, h 1, h 2, h 3)
objects_below (p ∷ q ∷ r ∷ s ∷ rest) h (suc k) = objects_below rest (λ j. h (suc (suc (suc (suc j))))) k
