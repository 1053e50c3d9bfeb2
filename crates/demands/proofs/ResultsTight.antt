-- What the code gives back is known by what a definition shows of it: two results that are shown alike are equal. The
-- dock's law is `stepped_once` of dock, that of a reading `read_only` of messages.
use mathlib.Core.List.{List}
use mathlib.Core.Path.{◌≡◌, refl, ap, sym}
use Prim.Native.Nat.{ℕ}
use denote.Ref.{Bor}
use Rattle.std.specs.Prelude.{Result, Ok, Err}
use Rattle.messages.specs.Refusals.{number_of, number_in}
use Rattle.messages.specs.declared.refusal.Refusal.{Refusal}
use Rattle.messages.proofs.Numbers.{number_once, numbered}
use Rattle.laptop.specs.declared.Accepted.{Accepted}
use Rattle.laptop.specs.declared.Refused.{Refused}
use Rattle.laptop.specs.Step.{Step, stepped}
use Rattle.port.specs.declared.Accepted.{Accepted as PortAccepted}
use Rattle.port.specs.declared.Refused.{Refused as PortRefused}
use Rattle.port.specs.Step.{Step as PortStep}
use Rattle.port.specs.Step.{stepped as port_stepped}
use Rattle.catalogue.specs.Bytes.{Bytes, bytes_in}
use Rattle.judging.specs.declared.fault.Fault.{Fault}
use Rattle.judging.specs.declared.walk.Walk.{Walk}
use Rattle.judging.specs.declared.Stopped.{Stopped}
use Rattle.judging.specs.Faults.{judged_as}
use Rattle.judging.specs.Judging.{Judged}
use Rattle.stretches.specs.Shown.{place_as, stretch_as}
use Rattle.stretches.specs.Stretches.{Place, Stretched}
use Rattle.stretches.specs.declared.Place.{Place as PlaceFound}
use Rattle.stretches.specs.declared.Stretch.{Stretch as StretchFound}
use Rattle.stretches.proofs.Laws.{stretch_only}
use Rattle.rebuilding.specs.Shown.{rebuilt_as}
use Rattle.rebuilding.specs.Rebuilding.{Rebuilt}
use Rattle.rebuilding.specs.declared.Rebuilt.{Rebuilt as RebuiltFound}
use Rattle.mending.specs.Mending.{Fault as MendedFault}
use Rattle.mending.specs.Shown.{fault_in, mended_in}
use Rattle.mending.specs.declared.Mended.{Mended as MendedFound}
use Rattle.mending.specs.declared.Mended.TheVariants.{Sound as FoundSound}
use Rattle.mending.specs.declared.Mended.TheVariants.{Partial as FoundPartial}
use Rattle.mending.specs.declared.keeping.Kept.{Kept}
use Rattle.records.specs.Shown.{as_found}
use Rattle.records.specs.declared.Whole.{Whole as WholeRecord}
use Rattle.records.specs.declared.missing.Missing.{Missing}
use Rattle.records.specs.declared.missing.Missing.TheVariants.{Unknown as MissingUnknown}
use Rattle.records.specs.declared.missing.Missing.TheVariants.{Cut as MissingCut}
use Rattle.records.specs.declared.missing.Missing.TheVariants.{Nothing as MissingNothing}

-- a call that gives nothing but its refusal
pub refusal_once : (r r' : Result (Unit {0}) Refusal) → number_in r ≡ number_in r' → r ≡ r'
refusal_once (Ok a) (Ok b) e = refl
refusal_once (Ok a) (Err q) e = absurd (numbered q (sym e))
refusal_once (Err p) (Ok b) e = absurd (numbered p e)
refusal_once (Err p) (Err q) e = ap Err (number_once p q e)

-- a call of a laptop of 01
pub stepped_once : (r r' : Result Accepted Refused) → stepped r ≡ stepped r' → r ≡ r'
stepped_once (Ok a) (Ok b) e =
    let size : a.length ≡ b.length = ap (λ (s : Step). s.length) e in
    let told : a.told ≡ b.told = ap (λ (s : Step). s.told) e in
    let next : a.laptop ≡ b.laptop = ap (λ (s : Step). s.laptop) e in
    λ i. Ok (record { length = size i; told = told i; laptop = next i })
stepped_once (Ok a) (Err q) e = absurd (numbered q.refusal (sym (ap (λ (s : Step). s.refusal) e)))
stepped_once (Err p) (Ok b) e = absurd (numbered p.refusal (ap (λ (s : Step). s.refusal) e))
stepped_once (Err p) (Err q) e =
    let why = number_once p.refusal q.refusal (ap (λ (s : Step). s.refusal) e) in
    let next : p.laptop ≡ q.laptop = ap (λ (s : Step). s.laptop) e in
    λ i. Err (record { refusal = why i; laptop = next i })

-- a call of the port
pub port_stepped_once : (r r' : Result PortAccepted PortRefused) → port_stepped r ≡ port_stepped r' → r ≡ r'
port_stepped_once (Ok a) (Ok b) e =
    let size : a.length ≡ b.length = ap (λ (s : PortStep). s.length) e in
    let told : a.told ≡ b.told = ap (λ (s : PortStep). s.told) e in
    let side : a.side ≡ b.side = ap (λ (s : PortStep). s.side) e in
    let next : a.port ≡ b.port = ap (λ (s : PortStep). s.port) e in
    λ i. Ok (record { length = size i; told = told i; side = side i; port = next i })
port_stepped_once (Ok a) (Err q) e = absurd (numbered q.refusal (sym (ap (λ (s : PortStep). s.refusal) e)))
port_stepped_once (Err p) (Ok b) e = absurd (numbered p.refusal (ap (λ (s : PortStep). s.refusal) e))
port_stepped_once (Err p) (Err q) e =
    let why = number_once p.refusal q.refusal (ap (λ (s : PortStep). s.refusal) e) in
    let side : p.side ≡ q.side = ap (λ (s : PortStep). s.side) e in
    let next : p.port ≡ q.port = ap (λ (s : PortStep). s.port) e in
    λ i. Err (record { refusal = why i; side = side i; port = next i })

-- the bytes of a catalogue
pub bytes_once : (r r' : Result ℕ Refusal) → bytes_in r ≡ bytes_in r' → r ≡ r'
bytes_once (Ok a) (Ok b) e = ap Ok (ap (λ (s : Bytes). s.length) e)
bytes_once (Ok a) (Err q) e = absurd (numbered q (sym (ap (λ (s : Bytes). s.refusal) e)))
bytes_once (Err p) (Ok b) e = absurd (numbered p (ap (λ (s : Bytes). s.refusal) e))
bytes_once (Err p) (Err q) e = ap Err (number_once p q (ap (λ (s : Bytes). s.refusal) e))

-- a file that is judged
pub judged_once : (r r' : Result Walk Stopped) → judged_as r ≡ judged_as r' → r ≡ r'
judged_once (Ok a) (Ok b) e = ap Ok (ap (λ (s : Judged). s.walk) e)
judged_once (Ok a) (Err q) e = absurd (numbered q.refusal (sym (ap (λ (s : Judged). s.refusal) e)))
judged_once (Err p) (Ok b) e = absurd (numbered p.refusal (ap (λ (s : Judged). s.refusal) e))
judged_once (Err p) (Err q) e =
    let why = number_once p.refusal q.refusal (ap (λ (s : Judged). s.refusal) e) in
    let next : p.walk ≡ q.walk = ap (λ (s : Judged). s.walk) e in
    λ i. Err (record { refusal = why i; walk = next i })

-- the place of a stretch, and a catalogue that is rebuilt
fault_once : (p q : Fault) → number_of p.refusal ≡ number_of q.refusal → p.at ≡ q.at → p ≡ q
fault_once p q e at =
    let why = number_once p.refusal q.refusal e in
    λ i. record { refusal = why i; at = at i }

pub place_once : (r r' : Result PlaceFound Fault) → place_as r ≡ place_as r' → r ≡ r'
place_once (Ok a) (Ok b) e =
    let at : a.at ≡ b.at = ap (λ (s : Place). s.at) e in
    let size : a.length ≡ b.length = ap (λ (s : Place). s.length) e in
    λ i. Ok (record { at = at i; length = size i })
place_once (Ok a) (Err q) e = absurd (numbered q.refusal (sym (ap (λ (s : Place). s.refusal) e)))
place_once (Err p) (Ok b) e = absurd (numbered p.refusal (ap (λ (s : Place). s.refusal) e))
place_once (Err p) (Err q) e = ap Err (fault_once p q (ap (λ (s : Place). s.refusal) e) (ap (λ (s : Place). s.at) e))

-- a stretch's part lies in the caller's bytes, so its promise is the one that says which it is
pub stretch_once : (bytes : Bor (List ℕ)) (svid : ℕ) (r r' : Result StretchFound Fault) → Stretched bytes svid (stretch_as bytes r) →
    Stretched bytes svid (stretch_as bytes r') → r ≡ r'
stretch_once bytes svid (Ok a) (Ok b) s s' =
    let same = stretch_only bytes svid (stretch_as bytes (Ok a)) (stretch_as bytes (Ok b)) s s' in
    λ i. Ok (record { part = record { ref_ptr = same.3 i; now = same.2 i }; at = same.1 i })
stretch_once bytes svid (Ok a) (Err q) s s' =
    let same = stretch_only bytes svid (stretch_as bytes (Ok a)) (stretch_as bytes (Err q)) s s' in
    absurd (numbered q.refusal (sym same.0))
stretch_once bytes svid (Err p) (Ok b) s s' =
    let same = stretch_only bytes svid (stretch_as bytes (Err p)) (stretch_as bytes (Ok b)) s s' in
    absurd (numbered p.refusal same.0)
stretch_once bytes svid (Err p) (Err q) s s' =
    let same = stretch_only bytes svid (stretch_as bytes (Err p)) (stretch_as bytes (Err q)) s s' in
    ap Err (fault_once p q same.0 same.1)

pub rebuilt_once : (r r' : Result RebuiltFound Fault) → rebuilt_as r ≡ rebuilt_as r' → r ≡ r'
rebuilt_once (Ok a) (Ok b) e =
    let at : a.at ≡ b.at = ap (λ (s : Rebuilt). s.at) e in
    let extent : a.extent ≡ b.extent = ap (λ (s : Rebuilt). s.extent) e in
    let count : a.count ≡ b.count = ap (λ (s : Rebuilt). s.count) e in
    let modes : a.modes ≡ b.modes = ap (λ (s : Rebuilt). s.modes) e in
    λ i. Ok (record { at = at i; extent = extent i; count = count i; modes = modes i })
rebuilt_once (Ok a) (Err q) e = absurd (numbered q.refusal (sym (ap (λ (s : Rebuilt). s.refusal) e)))
rebuilt_once (Err p) (Ok b) e = absurd (numbered p.refusal (ap (λ (s : Rebuilt). s.refusal) e))
rebuilt_once (Err p) (Err q) e = ap Err (fault_once p q (ap (λ (s : Rebuilt). s.refusal) e) (ap (λ (s : Rebuilt). s.at) e))

-- a file that is mended
pub mended_once : (r r' : Result MendedFound Refusal) → mended_in r ≡ mended_in r' → r ≡ r'
mended_once (Ok (FoundSound a)) (Ok (FoundSound b)) e = let same : a ≡ b = cc in ap (λ (k : Kept). Ok (FoundSound k)) same
mended_once (Ok (FoundSound a)) (Ok (FoundPartial g b)) e = cc
mended_once (Ok (FoundPartial f a)) (Ok (FoundSound b)) e = cc
mended_once (Ok (FoundPartial f a)) (Ok (FoundPartial g b)) e =
    let kept : a ≡ b = cc in
    let shown : fault_in f ≡ fault_in g = cc in
    let fault = fault_once f g (ap (λ (s : MendedFault). s.number) shown) (ap (λ (s : MendedFault). s.at) shown) in
    λ i. Ok (FoundPartial (fault i) (kept i))
mended_once (Ok (FoundSound a)) (Err q) e = cc
mended_once (Ok (FoundPartial f a)) (Err q) e = cc
mended_once (Err p) (Ok (FoundSound b)) e = cc
mended_once (Err p) (Ok (FoundPartial g b)) e = cc
mended_once (Err p) (Err q) e = let number : number_of p ≡ number_of q = cc in ap Err (number_once p q number)

-- a record, or why there is none
pub found_once : (r r' : Result WholeRecord Missing) → as_found r ≡ as_found r' → r ≡ r'
found_once (Ok a) (Ok b) e =
    let what : a.record ≡ b.record = cc in
    let size : a.length ≡ b.length = cc in
    λ i. Ok (record { «record» = what i; length = size i })
found_once (Ok a) (Err MissingUnknown) e = cc
found_once (Ok a) (Err MissingCut) e = cc
found_once (Ok a) (Err MissingNothing) e = cc
found_once (Err MissingUnknown) (Ok b) e = cc
found_once (Err MissingCut) (Ok b) e = cc
found_once (Err MissingNothing) (Ok b) e = cc
found_once (Err MissingUnknown) (Err MissingUnknown) e = refl
found_once (Err MissingUnknown) (Err MissingCut) e = cc
found_once (Err MissingUnknown) (Err MissingNothing) e = cc
found_once (Err MissingCut) (Err MissingUnknown) e = cc
found_once (Err MissingCut) (Err MissingCut) e = refl
found_once (Err MissingCut) (Err MissingNothing) e = cc
found_once (Err MissingNothing) (Err MissingUnknown) e = cc
found_once (Err MissingNothing) (Err MissingCut) e = cc
found_once (Err MissingNothing) (Err MissingNothing) e = refl
