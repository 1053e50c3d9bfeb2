-- What a request of the table says of the shapes of its answers.
use mathlib.Core.Path.{◌≡◌}
use mathlib.Core.Bool.{true, false≢true}
use Prim.Native.Nat.{ℕ, zero, suc, ◌/◌, ◌%◌, ◌<◌, ◌≤◌}
use native.Mathlib.Omega.{arith}
use lib.Dec.{leb, ltb}
use borrow.Author.Tests.{le-leb, leb-true, lt-ltb}
use lib.ListN.{get_or}
use Rattle.laws.proofs.Lines.{and_left, and_right, hold_at}
use Rattle.messages.specs.Layout.{req}
use Rattle.messages.specs.Requests.{request_of, head_for}
use Rattle.messages.specs.Table.{row_of, counts_of, fit_lines, fits, shape, one_to_five}
use Rattle.messages.specs.declared.Head.{Head}

-- the SVID and the position of a good shape are good for every type of the command, with the numbers of objects that the row has for the type
pub reshaped : (h : Head) (n : ℕ) → shape h n ≡ true → (kind count : ℕ) → kind < 4 → counts_of (row_of h.command) kind / 16 ≤ count →
    count ≤ counts_of (row_of h.command) kind % 16 → shape (head_for (request_of h) kind) count ≡ true
unfolding shape fits
reshaped h n good kind count k least most =
    let command : ltb h.command 32 ≡ true = and_left (ltb h.command 32) _ good in
    let line : (i : ℕ) → get_or (fit_lines (row_of h.command) h n) i true ≡ true =
    hold_at (fit_lines (row_of h.command) h n) (and_right (ltb h.kind 4) _ (and_right (ltb h.command 32) _ good)) in
    rw (command, lt-ltb kind 4 k, le-leb _ _ least, le-leb _ _ most, line 2, line 3, line 4, line 5)

-- what holds for each of commands 1 to 5
pub each_of_five : (P : ℕ → Type 0) → P 1 → P 2 → P 3 → P 4 → P 5 → (command : ℕ) → one_to_five command ≡ true → P command
each_of_five P one two three four five zero e = absurd (false≢true e)
each_of_five P one two three four five (suc zero) e = one
each_of_five P one two three four five (suc (suc zero)) e = two
each_of_five P one two three four five (suc (suc (suc zero))) e = three
each_of_five P one two three four five (suc (suc (suc (suc zero)))) e = four
each_of_five P one two three four five (suc (suc (suc (suc (suc zero))))) e = five
each_of_five P one two three four five (suc (suc (suc (suc (suc (suc c)))))) e =
    absurd (omega (arith, leb-true (suc (suc (suc (suc (suc (suc c)))))) 5 (and_right (leb 1 (suc (suc (suc (suc (suc (suc c))))))) _ e)))

-- the row of a command has messages of one object for a type
abbrev pub OneObject : ℕ → ℕ → Type 0
OneObject kind command = (counts_of (row_of command) kind / 16 ≤ 1) × (1 ≤ counts_of (row_of command) kind % 16)

request_one : (command : ℕ) → one_to_five command ≡ true → OneObject req command
unfolding row_of counts_of
request_one command e =
    each_of_five (OneObject req) (omega arith, omega arith) (omega arith, omega arith) (omega arith, omega arith) (omega arith, omega arith)
    (omega arith, omega arith) command e

-- a request that a message has, as a REQ of one object
pub request_shape : (h : Head) (n : ℕ) → shape h n ≡ true → one_to_five h.command ≡ true → shape (head_for (request_of h) req) 1 ≡ true
request_shape h n good e =
    let one = request_one h.command e in
    reshaped h n good req 1 (omega arith) one.0 one.1
