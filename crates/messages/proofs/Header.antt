-- The header: what we write is read again, what was read is written again at an edition with bit 5 cleared, and bit 5 says nothing.
use mathlib.Core.Path.{◌≡◌, ap, ap₂, sym, ◌∙◌}
use Prim.Native.Nat.{ℕ, ◌+◌, ◌*◌, ◌/◌, ◌%◌, ◌^◌, ◌<◌}
use native.Mathlib.Nat.{div-one, div-div-eq-div-mul}
use native.Mathlib.Omega.{arith}
use Rattle.laws.proofs.Fields.{field}
use Rattle.messages.specs.Editions.{major_of, minor_of, edition_of}
use Rattle.messages.specs.Layout.{object_of, bits, structured, major, minor, edition_said, head_of, header_of, without_reserved}
use Rattle.messages.specs.declared.Head.{Head}
use Rattle.messages.specs.declared.edition.Edition.{Edition}
use Rattle.messages.proofs.Editions.{edition_of_lem, version_below}

-- the header that is written at an edition
module _ (e : Edition) (h : Head) (s : h.svid < 2 ^ 16) (c : h.command < 32) (k : h.kind < 4) (p : h.position < 8) where
  abbrev most : ℕ
  most = major_of e

  abbrev least : ℕ
  least = minor_of e

  below : (most < 2) × (least < 2)
  below = version_below e

  pub header_below : header_of e h < 2 ^ 32
  unfolding header_of
  header_below = omega (arith, below.0, below.1)

  pub header_structured : structured (header_of e h) ≡ 1
  unfolding header_of
  header_structured =
      field _ 32768 2 h.svid 1 (most * 8192 + least * 2048 + h.position * 256 + h.kind * 64 + h.command) (omega arith) (omega (arith, below.0, below.1)) (omega arith)

  pub header_major : major (header_of e h) ≡ major_of e
  unfolding header_of
  header_major =
      field _ 8192 4 (h.svid * 2 + 1) most (least * 2048 + h.position * 256 + h.kind * 64 + h.command) (omega arith) (omega (arith, below.1)) (omega (arith, below.0))

  header_minor : minor (header_of e h) ≡ minor_of e
  unfolding header_of
  header_minor =
      field _ 2048 4 (h.svid * 8 + 4 + most) least (h.position * 256 + h.kind * 64 + h.command) (omega arith) (omega arith) (omega (arith, below.1))

  pub header_edition : edition_said (header_of e h) ≡ e
  unfolding edition_said
  header_edition = ap₂ edition_of header_major header_minor ∙ edition_of_lem e

  pub head_header : head_of (header_of e h) ≡ h
  unfolding head_of header_of
  head_header =
      let w : ℕ = header_of e h in
      let es : w / 65536 % 65536 ≡ h.svid =
      field w 65536 65536 0 h.svid (32768 + most * 8192 + least * 2048 + h.position * 256 + h.kind * 64 + h.command) (omega arith) (omega (arith, below.0, below.1)) s in
      let ec : w / 1 % 32 ≡ h.command =
      field w 1 32 (h.svid * 2048 + 1024 + most * 256 + least * 64 + h.position * 8 + h.kind * 2) h.command 0 (omega arith) (omega arith) c in
      let ek : w / 64 % 4 ≡ h.kind =
      field w 64 4 (h.svid * 256 + 128 + most * 32 + least * 8 + h.position) h.kind h.command (omega arith) (omega arith) k in
      let ep : w / 256 % 8 ≡ h.position =
      field w 256 8 (h.svid * 32 + 16 + most * 4 + least) h.position (h.kind * 64 + h.command) (omega arith) (omega arith) p in
      λ i. record { svid = es i; command = ec i; kind = ek i; position = ep i }

-- a header that was read, by its four bytes
module _ (p q r s : ℕ) (hp : p < 256) (hq : q < 256) (hr : r < 256) (hs : s < 256) where
  pub header_head : (e : Edition) → structured (object_of p q r s) ≡ 1 →
      header_of e (head_of (object_of p q r s)) ≡ object_of (without_reserved p) (bits 7 7 q * 2 ^ 7 + major_of e * 2 ^ 5 + minor_of e * 2 ^ 3 + bits 2 0 q) r s
  unfolding head_of header_of
  header_head e set =
      let w : ℕ = object_of p q r s in
      let es : w / 65536 % 65536 ≡ r + s * 256 = field w 65536 65536 0 (r + s * 256) (p + q * 256) (omega arith) (omega arith) (omega arith) in
      let ec : w / 1 % 32 ≡ p % 32 =
      field w 1 32 (q * 8 + r * 2048 + s * 524288 + p / 32) (p % 32) 0 (omega arith) (omega arith) (omega arith) in
      let ek : w / 64 % 4 ≡ p / 64 =
      field w 64 4 (q + r * 256 + s * 65536) (p / 64) (p % 64) (omega arith) (omega arith) (omega arith) in
      let ep : w / 256 % 8 ≡ q % 8 = field w 256 8 (r * 32 + s * 8192 + q / 8) (q % 8) p (omega arith) (omega arith) (omega arith) in
      let et : w / 32768 % 2 ≡ q / 128 =
      field w 32768 2 (r + s * 256) (q / 128) (p + q % 128 * 256) (omega arith) (omega arith) (omega arith) in
      let half : p / 32 / 2 ≡ p / 64 = div-div-eq-div-mul p 32 2 in
      let top : q / 128 % 2 ≡ 1 = ap (λ (n : ℕ). n % 2) (sym et ∙ set) in
      let one : q / 1 ≡ q = div-one q in
      rw (es, ec, ek, ep, one, top) (omega arith)

-- a header with bit 5 cleared, by its four numbers: all that is read of it is the same
module _ (p q r s : ℕ) where
  abbrev header : ℕ
  header = object_of p q r s

  abbrev cleared : ℕ
  cleared = object_of (without_reserved p) q r s

  low : cleared / 1 % 32 ≡ header / 1 % 32
  low = omega arith

  high : cleared / 64 ≡ header / 64
  high = omega arith

  above : (k : ℕ) → cleared / (64 * k) ≡ header / (64 * k)
  above k = sym (div-div-eq-div-mul cleared 64 k) ∙ ap (λ (n : ℕ). n / k) high ∙ div-div-eq-div-mul header 64 k

  pub clear_structured : structured cleared ≡ structured header
  clear_structured = ap (λ (n : ℕ). n % 2) (above 512)

  pub clear_major : major cleared ≡ major header
  clear_major = ap (λ (n : ℕ). n % 4) (above 128)

  clear_minor : minor cleared ≡ minor header
  clear_minor = ap (λ (n : ℕ). n % 4) (above 32)

  pub clear_edition : edition_said cleared ≡ edition_said header
  unfolding edition_said
  clear_edition = ap₂ edition_of clear_major clear_minor

  pub clear_head : head_of cleared ≡ head_of header
  unfolding head_of
  clear_head = λ i. record {
    svid = above 1024 i % 65536;
    command = low i;
    kind = high i % 4;
    position = above 4 i % 8;
  }
