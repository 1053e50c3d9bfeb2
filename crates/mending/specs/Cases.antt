-- The corners of 02's R-6: files, each with the room of the second buffer, what is given back, and the bytes that come out.
use Rattle.std.specs.Prelude.{ℕ, ◌+◌, ◌-◌, List, [], ◌∷◌, ◌++◌, length, take, replicate}
use Rattle.judging.specs.Cases.{identity, svid, mode, end, modes, listed}
use Rattle.mending.specs.Mending.{mending_of}
use Rattle.mending.specs.Mending.{Mended}
use Rattle.mending.specs.Mending.{Refused, Sound, Partial}

pub record Case : Type 0 where
  pub bytes : List ℕ
  pub room : ℕ
  pub given : Mended
  pub written : List ℕ

abbrev refused : List ℕ → ℕ → ℕ → Case
refused bytes room number = record { bytes = bytes; room = room; given = Refused number; written = [] }

-- a sound file comes out the same, in a buffer of just its length
abbrev sound : List ℕ → ℕ → ℕ → ℕ → Case
sound bytes svids modes size = record {
  bytes = bytes;
  room = size;
  given = Sound (record { svids = svids; modes = modes; length = size });
  written = bytes;
}

-- the fault's number and offset, and what is kept of the file, in a buffer with two bytes behind it
abbrev partial : List ℕ → ℕ → ℕ → ℕ → ℕ → ℕ → List ℕ → Case
partial bytes number at svids modes size written = record {
  bytes = bytes;
  room = size + 2;
  given = Partial (record { number = number; at = at }) (record { svids = svids; modes = modes; length = size });
  written = written;
}

abbrev one : List ℕ
one = identity ++ svid 1 ++ mode ++ end

abbrev pub cases : List Case
cases =
    -- no whole identity at the front, whatever the room: no bytes, cut, an unknown kind, another kind
    refused [] 0 19 ∷
    refused (take 12 identity) 100 19 ∷
    refused (0x07 ∷ replicate 28 0x00) 100 19 ∷
    refused (svid 1 ++ mode ++ end) 100 19 ∷
    refused end 0 19 ∷
    -- one byte too few, of a sound file and of a mended one, which may be longer than it was
    refused one 21 11 ∷
    refused (identity ++ svid 1 ++ mode) 21 11 ∷
    refused identity 13 11 ∷
    -- sound files: Case L's 22 bytes, no SVIDs, 72 SVIDs, six modes
    sound (identity ++ svid 0xFF01 ++ mode ++ end) 1 1 22 ∷
    sound (identity ++ end) 0 0 14 ∷
    sound (identity ++ listed 1 72 ++ end) 72 72 590 ∷
    sound (identity ++ svid 1 ++ modes 6 ++ end) 1 6 47 ∷
    -- only the end is missing
    partial identity 16 13 0 0 14 (identity ++ end) ∷
    partial (identity ++ svid 1 ++ mode) 16 21 1 1 22 one ∷
    -- each whole mode before the fault stays: of an SVID cut in its third mode two
    partial (identity ++ svid 1 ++ modes 2 ++ take 4 mode) 16 26 1 2 27 (identity ++ svid 1 ++ modes 2 ++ end) ∷
    partial (identity ++ svid 1 ++ modes 7 ++ end) 17 46 1 6 47 (identity ++ svid 1 ++ modes 6 ++ end) ∷
    -- the last SVID without a whole mode is left out, and the offset is not the number of bytes kept
    partial (identity ++ svid 1) 16 16 0 0 14 (identity ++ end) ∷
    partial (identity ++ svid 1 ++ take 4 mode) 16 16 0 0 14 (identity ++ end) ∷
    partial (identity ++ svid 1 ++ mode ++ svid 2 ++ end) 17 24 1 1 22 one ∷
    partial (identity ++ svid 1 ++ svid 2 ++ mode ++ end) 17 16 0 0 14 (identity ++ end) ∷
    -- nothing behind the fault is read on, even if good records follow
    partial (identity ++ 0xFF ∷ svid 1 ++ mode ++ end) 15 13 0 0 14 (identity ++ end) ∷
    partial (identity ++ svid 1 ++ mode ++ svid 1 ++ mode ++ svid 2 ++ mode ++ end) 17 21 1 1 22 one ∷
    partial (identity ++ listed 1 73 ++ end) 17 589 72 72 590 (identity ++ listed 1 72 ++ end) ∷
    -- behind the end: all is kept, and the file is partial; a torn block of zeros too
    partial (one ++ 0xFF ∷ []) 18 22 1 1 22 one ∷
    partial (identity ++ end ++ svid 1 ++ mode ++ end) 18 14 0 0 14 (identity ++ end) ∷
    partial (identity ++ svid 1 ++ mode ++ replicate 4 0x00) 18 22 1 1 22 one ∷
    []

-- what they get, and what they are to get: the buffer held 0xDD in each of its bytes
abbrev lent : ℕ → List ℕ
lent bytes = replicate bytes 0xDD

abbrev pub given : List Case → List (Mended × List ℕ)
given [] = []
given (one ∷ others) = mending_of one.bytes (lent one.room) ∷ given others

abbrev pub said : List Case → List (Mended × List ℕ)
said [] = []
said (one ∷ others) = (one.given, one.written ++ lent (one.room - length one.written)) ∷ said others
