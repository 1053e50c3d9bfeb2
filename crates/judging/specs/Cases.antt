-- The corners of 02's R-1: files, each with the number and the offset that it gets.
use Rattle.std.specs.Prelude.{ℕ, zero, suc, ◌%◌, ◌/◌, List, [], ◌∷◌, ◌++◌, take, replicate}
use Rattle.judging.specs.Judging.{judgement_of}

-- records, by their bytes
abbrev pub identity : List ℕ
identity = 0x03 ∷ replicate 12 0xEE

abbrev pub svid : ℕ → List ℕ
svid number = 0x10 ∷ number % 256 ∷ number / 256 ∷ []

abbrev pub mode : List ℕ
mode = 0x20 ∷ 0x05 ∷ 0x04 ∷ 0x00 ∷ 0x00 ∷ []

abbrev pub end : List ℕ
end = 0x00 ∷ []

-- so many modes; SVIDs from a number on, each with a mode
abbrev pub modes : ℕ → List ℕ
modes zero = []
modes (suc n) = mode ++ modes n

abbrev pub listed : ℕ → ℕ → List ℕ
listed from zero = []
listed from (suc n) = svid from ++ mode ++ listed (suc from) n

pub record Case : Type 0 where
  pub bytes : List ℕ
  pub refusal : ℕ
  pub at : ℕ

abbrev case : List ℕ → ℕ → ℕ → Case
case bytes number at = record { bytes = bytes; refusal = number; at = at }

abbrev pub cases : List Case
cases =
    -- sound files: Case L's 22 bytes, no SVIDs, 72 SVIDs, six modes
    case (identity ++ svid 0xFF01 ++ mode ++ end) 0 22 ∷
    case (identity ++ end) 0 14 ∷
    case (identity ++ listed 1 72 ++ end) 0 590 ∷
    case (identity ++ svid 1 ++ modes 6 ++ end) 0 47 ∷
    case (0x06 ∷ replicate 24 0xFF ++ end) 0 26 ∷
    -- no bytes; bytes that stop at a border, or within a record
    case [] 16 0 ∷
    case identity 16 13 ∷
    case (identity ++ svid 1) 16 16 ∷
    case (identity ++ svid 1 ++ mode) 16 21 ∷
    case (take 12 identity) 16 0 ∷
    case (identity ++ take 2 (svid 1)) 16 13 ∷
    case (identity ++ svid 1 ++ mode ++ take 4 mode) 16 21 ∷
    -- unknown kinds
    case (0x01 ∷ []) 15 0 ∷
    case (0x07 ∷ replicate 28 0x00) 15 0 ∷
    case (identity ++ 0x11 ∷ []) 15 13 ∷
    case (identity ++ svid 1 ++ 0xFF ∷ []) 15 16 ∷
    -- the order: one identity, first
    case end 17 0 ∷
    case (svid 1 ++ mode) 17 0 ∷
    case mode 17 0 ∷
    case (identity ++ identity ++ end) 17 13 ∷
    case (identity ++ mode ++ end) 17 13 ∷
    -- each SVID has a mode: the fault is at the record that follows
    case (identity ++ svid 1 ++ svid 2 ++ mode ++ end) 17 16 ∷
    case (identity ++ svid 1 ++ end) 17 16 ∷
    case (identity ++ svid 1 ++ end ++ end) 17 16 ∷
    case (identity ++ svid 1 ++ identity) 17 16 ∷
    -- SVIDs not zero, all different, at most 72; at most six modes
    case (identity ++ svid 0 ++ mode ++ end) 17 13 ∷
    case (identity ++ svid 7 ++ mode ++ svid 7 ++ mode ++ end) 17 21 ∷
    case (identity ++ svid 7 ++ mode ++ svid 0x0700 ++ mode ++ svid 7 ++ mode ++ end) 17 29 ∷
    case (identity ++ listed 1 73 ++ end) 17 589 ∷
    case (identity ++ svid 1 ++ modes 7 ++ end) 17 46 ∷
    -- 15 before 16 before 17 at one record
    case (take 3 mode) 16 0 ∷
    case (identity ++ svid 1 ++ modes 6 ++ take 4 mode) 16 46 ∷
    case (identity ++ take 12 identity) 16 13 ∷
    case (identity ++ svid 1 ++ 0x30 ∷ 0x00 ∷ []) 15 16 ∷
    -- behind the end all is 18
    case (identity ++ end ++ end) 18 14 ∷
    case (identity ++ end ++ 0xFF ∷ []) 18 14 ∷
    case (identity ++ svid 1 ++ mode ++ end ++ take 2 mode) 18 22 ∷
    []

-- what they get, and what they are to get
abbrev pub given : List Case → List (ℕ × ℕ)
given [] = []
given (one ∷ others) = ((judgement_of one.bytes).refusal, (judgement_of one.bytes).at) ∷ given others

abbrev pub said : List Case → List (ℕ × ℕ)
said [] = []
said (one ∷ others) = (one.refusal, one.at) ∷ said others
