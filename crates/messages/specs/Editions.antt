-- The editions of Structured VDMs: what the version bits of a header say, and the lower of two (02, R-5).
use Rattle.std.specs.Prelude.{ℕ, cond, leb, eqb, Option, Some, None}
use Rattle.messages.specs.declared.edition.Edition.{Edition}
use Rattle.messages.specs.declared.edition.Edition.TheVariants.{OneZero, TwoZero, TwoOne}

-- our highest
abbrev pub ours : Edition
ours = TwoOne

-- written: 1.0 is major 0, minor 0; 2.0 is major 1, minor 0; 2.1 is major 1, minor 1
abbrev pub major_of : Edition → ℕ
major_of OneZero = 0
major_of TwoZero = 1
major_of TwoOne = 1

abbrev pub minor_of : Edition → ℕ
minor_of OneZero = 0
minor_of TwoZero = 0
minor_of TwoOne = 1

-- read: major 0 is 1.0 whatever its minor; with major 1 a minor of 0 is 2.0, and one above 1 counts as 1
unfoldable pub edition_of : ℕ → ℕ → Edition
edition_of major minor = cond (eqb major 0) OneZero (cond (eqb minor 0) TwoZero TwoOne)

-- an edition's number, by which they are ordered
abbrev pub edition_number : Edition → ℕ
edition_number OneZero = 10
edition_number TwoZero = 20
edition_number TwoOne = 21

-- the edition that a number names
unfoldable pub edition_named : ℕ → Option Edition
edition_named number =
    cond (eqb number 10) (Some OneZero)
    (cond (eqb number 20) (Some TwoZero) (cond (eqb number 21) (Some TwoOne) None))

-- THE CHOICE: the lower of two
unfoldable pub lower : Edition → Edition → Edition
lower a b = cond (leb (edition_number a) (edition_number b)) a b
