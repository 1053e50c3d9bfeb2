-- The tests on a page are 01's words.
use mathlib.Core.Logic.{◌↔◌, ◌⊎◌, inl, inr}
use mathlib.Core.Path.{◌≡◌, refl, ap, subst, sym, ◌∙◌}
use mathlib.Core.Bool.{Bool, true, false, cond, not, ◌&&◌, false≢true}
use mathlib.Core.List.{List, [], ◌∷◌, ◌++◌, append-nil}
use Prim.Native.Nat.{ℕ, zero, suc, ◌+◌, ◌*◌, ◌-◌, ◌<◌, ◌≤◌}
use native.Mathlib.Omega.{arith}
use lib.Dec.{leb, eqb}
use lib.ListN.{length, get_or, take, drop, replicate, drop_of_length-le, take-append-drop, length-append, length-drop, length-replicate, get_or-eq_default}
use borrow.Author.Tests.{eq-eqb, leb-true, leb-false, eqb-true, not-true}
use Rattle.laws.proofs.Lines.{and_left, and_right}
use Rattle.pages.specs.Lists.{is_in}
use Rattle.pages.specs.Pages.{halves, read_off, NoZero}
use Rattle.pages.specs.Words.{Twice}
use Rattle.pages.proofs.Laws.{read_zeros, read_values}
use Rattle.pages.proofs.Making.{append_zeros_at}
use Rattle.pages.proofs.Scanning.{next}
use Rattle.pages.proofs.Words.{in_stands, not_in, twice_first, twice_later}
use Rattle.taking.specs.Taking.{is_repeat, before, is_full, is_ending, all_new, adds, nothing, Judged, bad, repeats, full, ends, judged_ending, judged, shown, meant, verdict}
use Rattle.taking.specs.Words.{RepeatPage, FullPage, EndingPage, Again, BadPage, neither_form, gathered_again, stands_twice, past_72, all_zeros, JudgedAs, as_repeat, as_bad, as_full, as_ending}
use Rattle.taking.specs.declared.Verdict.{Verdict}
use Rattle.taking.specs.declared.Verdict.TheVariants.{Bad, Repeat, More, Ends}
use Rattle.taking.proofs.Gathering.{same_lists, repeats_last}
use Rattle.taking.proofs.Growing.{read_no_zero, full_read, adds_all_new}
use Rattle.taking.proofs.Judging.{take_before, full_whole, ending_last, adds_fits}
use Rattle.taking.proofs.Sizes.{full_twelve}

-- six objects have twelve values
length_halves : (objects : List ℕ) → length (halves objects) ≡ length objects * 2
unfolding halves
length_halves [] = refl
length_halves (w ∷ objects) = let rest = length_halves objects in omega arith

pub six_objects : (objects : List ℕ) → (length (halves objects) ≡ 12) ↔ (length objects ≡ 6)
six_objects objects = let twice = length_halves objects in (λ e. omega arith, λ e. omega arith)

-- a repeat
repeat_words : (l v : List ℕ) → is_repeat l v ≡ true → RepeatPage l v
unfolding is_repeat
repeat_words l v e =
    let some : 12 ≤ length l = leb-true 12 (length l) (and_left (leb 12 (length l)) _ e) in
    let same : drop (length l - 12) l ≡ v = same_lists (drop (length l - 12) l) v (and_right (leb 12 (length l)) _ e) in
    record {
      twelve = sym (ap length same) ∙ length-drop (length l - 12) l ∙ twelve_of (length l) some;
      earlier = take (length l - 12) l;
      last_twelve = sym (take-append-drop (length l - 12) l) ∙ ap (λ (x : List ℕ). take (length l - 12) l ++ x) same;
    }
  where
    twelve_of : (n : ℕ) → 12 ≤ n → n - (n - 12) ≡ 12
    twelve_of n h = omega arith

pub repeat_exactly : (l v : List ℕ) → (is_repeat l v ≡ true) ↔ RepeatPage l v
repeat_exactly l v =
    (repeat_words l v, λ (r : RepeatPage l v). ap (λ (x : List ℕ). is_repeat x v) r.last_twelve ∙ repeats_last r.earlier v r.twelve)

-- a full page
all_read : (v : List ℕ) → NoZero v → read_off v ≡ v
unfolding read_off
all_read v h = ap read_off (sym (append-nil v)) ∙ read_values v [] h refl

pub full_exactly : (v : List ℕ) → (is_full v ≡ true) ↔ FullPage v
full_exactly v = (
  λ e. record { twelve = full_twelve v e; non_zero = subst NoZero (full_read v e) (read_no_zero v) },
  λ (f : FullPage v).
      sym (full_whole v (before v) refl f.twelve) ∙ eq-eqb (before v) 12 (ap length (all_read v f.non_zero) ∙ f.twelve),
)

-- an ending page
first_zero : (v : List ℕ) → get_or v (before v) 0 ≡ 0
unfolding read_off
first_zero [] = refl
first_zero (x ∷ v) = go (eqb x 0) refl (first_zero v)
  where
    go : (t : Bool) → eqb x 0 ≡ t → get_or v (before v) 0 ≡ 0 → get_or (x ∷ v) (length (cond t [] (x ∷ read_off v))) 0 ≡ 0
    go true e rest = eqb-true x 0 e
    go false e rest = rest

behind : (v : List ℕ) (b : ℕ) → get_or v b 0 ≡ 0 → get_or v (length v - 1) 0 ≡ 0 → b + 1 ≤ length v → length v ≤ b + 2 →
    (drop b v ≡ 0 ∷ []) ⊎ (drop b v ≡ 0 ∷ 0 ∷ [])
behind v b first last some two = go (leb (length v) (b + 1)) refl
  where
    go : (t : Bool) → leb (length v) (b + 1) ≡ t → (drop b v ≡ 0 ∷ []) ⊎ (drop b v ≡ 0 ∷ 0 ∷ [])
    go true e =
        inl (next v b (omega arith) ∙ rw (first, drop_of_length-le v (leb-true (length v) (b + 1) e)))
    go false e =
        let more : b + 1 < length v = leb-false (length v) (b + 1) e in
        let place : length v - 1 ≡ b + 1 = omega arith in
        let second : get_or v (b + 1) 0 ≡ 0 = ap (λ (k : ℕ). get_or v k 0) (sym place) ∙ last in
        let all : length v ≤ b + 1 + 1 = omega arith in
        let none : drop (b + 1 + 1) v ≡ [] = drop_of_length-le v all in
        inr (next v b (omega arith) ∙ rw (first, next v (b + 1) more, second, none))

ending_zeros : (v : List ℕ) → is_ending v ≡ true → (drop (before v) v ≡ 0 ∷ []) ⊎ (drop (before v) v ≡ 0 ∷ 0 ∷ [])
unfolding is_ending
ending_zeros v e =
    let some = leb-true (before v + 1) (length v) (and_left (leb (before v + 1) (length v)) _ e) in
    let rest = and_right (leb (before v + 1) (length v)) _ e in
    let two = leb-true (length v) (before v + 2) (and_left (leb (length v) (before v + 2)) _ rest) in
    let last = eqb-true (get_or v (length v - 1) 0) 0 (and_right (leb (length v) (before v + 2)) _ rest) in
    behind v (before v) (first_zero v) last some two

ending_words : (v : List ℕ) → is_ending v ≡ true → EndingPage v
ending_words v e =
    record {
      front = read_off v;
      zeros = drop (before v) v;
      parts = sym (take-append-drop (before v) v) ∙ ap (λ (x : List ℕ). x ++ drop (before v) v) (take_before v);
      non_zero = read_no_zero v;
      one_or_two = ending_zeros v e;
    }

-- behind values that are not zero, one or two zeros
ending_of : (w : List ℕ) (n : ℕ) → NoZero w → 1 ≤ n → n ≤ 2 → is_ending (w ++ replicate n 0) ≡ true
ending_of w n non_zero one two =
    let v : List ℕ = w ++ replicate n 0 in
    let read : before v ≡ length w = ap length (read_values w (replicate n 0) non_zero (read_zeros n)) in
    let size : length v ≡ length w + n = length-append w (replicate n 0) ∙ ap (λ (k : ℕ). length w + k) (length-replicate {A = ℕ} n 0) in
    let last : get_or v (length v - 1) 0 ≡ 0 = append_zeros_at w n (length v - 1) ∙ get_or-eq_default w 0 (omega arith) in
    sym (ending_last v (before v) refl (omega arith) (omega arith)) ∙ eq-eqb (get_or v (length v - 1) 0) 0 last

ending_test : (v : List ℕ) → EndingPage v → is_ending v ≡ true
ending_test v e = go e.one_or_two
  where
    with_zeros : (n : ℕ) → 1 ≤ n → n ≤ 2 → e.zeros ≡ replicate n 0 → is_ending v ≡ true
    with_zeros n one two z =
        ap is_ending (e.parts ∙ ap (λ (x : List ℕ). e.front ++ x) z) ∙ ending_of e.front n e.non_zero one two

    go : (e.zeros ≡ 0 ∷ []) ⊎ (e.zeros ≡ 0 ∷ 0 ∷ []) → is_ending v ≡ true
    go (inl z) = with_zeros 1 (omega arith) (omega arith) z
    go (inr z) = with_zeros 2 (omega arith) (omega arith) z

pub ending_exactly : (v : List ℕ) → (is_ending v ≡ true) ↔ EndingPage v
ending_exactly v = (ending_words v, ending_test v)

-- SVIDs that are not all new: one is gathered, or one stands twice
again_later : (l : List ℕ) (x : ℕ) (w : List ℕ) → Again l w → Again l (x ∷ w)
again_later l x w a =
    record {
      svid = a.svid;
      on_page = record { place = suc a.on_page.place; within = omega (arith, a.on_page.within); is_there = a.on_page.is_there };
      gathered = a.gathered;
    }

not_new : (l w : List ℕ) → all_new l w ≡ false → Again l w ⊎ Twice w
unfolding all_new
not_new l [] e = absurd (false≢true (sym e))
not_new l (x ∷ w) e = go (is_in x l) (is_in x w) refl refl e (not_new l w)
  where
    later : Again l w ⊎ Twice w → Again l (x ∷ w) ⊎ Twice (x ∷ w)
    later (inl a) = inl (again_later l x w a)
    later (inr t) = inr (twice_later x w t)

    go : (g t : Bool) → is_in x l ≡ g → is_in x w ≡ t → (not g && (not t && all_new l w)) ≡ false → (all_new l w ≡ false → Again l w ⊎ Twice w) →
        Again l (x ∷ w) ⊎ Twice (x ∷ w)
    go true t eg et h more =
        inl (record { svid = x; on_page = record { place = zero; within = omega arith; is_there = refl }; gathered = in_stands x l eg })
    go false true eg et h more = inr (twice_first x w (in_stands x w et))
    go false false eg et h more = later (more h)

new_rest : (l : List ℕ) (x : ℕ) (w : List ℕ) → all_new l (x ∷ w) ≡ true → (is_in x l ≡ false) × (is_in x w ≡ false) × (all_new l w ≡ true)
unfolding all_new
new_rest l x w e =
    let rest = and_right (not (is_in x l)) (not (is_in x w) && all_new l w) e in (
      not-true (is_in x l) (and_left (not (is_in x l)) (not (is_in x w) && all_new l w) e),
      not-true (is_in x w) (and_left (not (is_in x w)) (all_new l w) rest),
      and_right (not (is_in x w)) (all_new l w) rest,
    )

new_at : (l w : List ℕ) → all_new l w ≡ true → (j : ℕ) → j < length w → is_in (get_or w j 0) l ≡ false
new_at l [] e j h = absurd (omega arith)
new_at l (x ∷ w) e zero h = (new_rest l x w e).0
new_at l (x ∷ w) e (suc j) h = new_at l w (new_rest l x w e).2 j (omega arith)

new_apart : (l w : List ℕ) → all_new l w ≡ true → (i j : ℕ) → i < j → j < length w → get_or w i 0 ≡ get_or w j 0 → ⊥
new_apart l [] e i j less h same = omega arith
new_apart l (x ∷ w) e i zero less h same = omega arith
new_apart l (x ∷ w) e zero (suc j) less h same = not_in x w j (new_rest l x w e).1 (omega arith) (sym same)
new_apart l (x ∷ w) e (suc i) (suc j) less h same = new_apart l w (new_rest l x w e).2 i j (omega arith) (omega arith) same

-- all zeros: none stands before the first zero
none_before : (v : List ℕ) → ((k : ℕ) → k < length v → get_or v k 0 ≡ 0) → before v ≡ 0
unfolding read_off
none_before [] h = refl
none_before (x ∷ v) h = rw (eq-eqb x 0 (h 0 (omega arith)))

zeros_alone : (v : List ℕ) → before v ≡ 0 → is_ending v ≡ true → (k : ℕ) → get_or v k 0 ≡ 0
zeros_alone v none e k = go (ending_zeros v e)
  where
    whole : v ≡ drop (before v) v
    whole = ap (λ (b : ℕ). drop b v) (sym none)

    go : (drop (before v) v ≡ 0 ∷ []) ⊎ (drop (before v) v ≡ 0 ∷ 0 ∷ []) → get_or v k 0 ≡ 0
    go (inl z) = ap (λ (x : List ℕ). get_or x k 0) (whole ∙ z) ∙ append_zeros_at [] 1 k
    go (inr z) = ap (λ (x : List ℕ). get_or x k 0) (whole ∙ z) ∙ append_zeros_at [] 2 k

empty_list : (l : List ℕ) → length l ≡ 0 → l ≡ []
empty_list [] e = refl
empty_list (x ∷ l) e = absurd (omega arith)

abbrev is_bad : Verdict → Bool
is_bad Bad = true
is_bad Repeat = false
is_bad More = false
is_bad (Ends k) = false

module _ (l v : List ℕ) where
  -- SVIDs that cannot be added make a page bad,
  clashes : (w : List ℕ) → read_off v ≡ w → adds l w ≡ false → BadPage l v
  unfolding adds
  clashes w read e = go (leb (length l + length w) 72) refl e
    where
      again : Again l w ⊎ Twice w → BadPage l v
      again (inl a) = gathered_again (subst (Again l) (sym read) a)
      again (inr t) = stands_twice (subst Twice (sym read) t)

      go : (t : Bool) → leb (length l + length w) 72 ≡ t → (t && all_new l w) ≡ false → BadPage l v
      go true f h = again (not_new l w h)
      go false f h = past_72 (omega (arith, leb-false (length l + length w) 72 f, ap length read))

  -- and of a page that is bad for its SVIDs they cannot be
  again_clashes : Again l (read_off v) → adds l (read_off v) ≡ true → ⊥
  again_clashes a e =
      not_in a.svid l a.gathered.place
      (ap (λ (s : ℕ). is_in s l) (sym a.on_page.is_there) ∙ new_at l (read_off v) (adds_all_new l (read_off v) e) a.on_page.place a.on_page.within)
      a.gathered.within a.gathered.is_there

  twice_clashes : Twice (read_off v) → adds l (read_off v) ≡ true → ⊥
  twice_clashes t e = new_apart l (read_off v) (adds_all_new l (read_off v) e) t.earlier t.later t.in_order t.within t.equal

  past_clashes : 72 < length l + length (read_off v) → adds l (read_off v) ≡ true → ⊥
  past_clashes h e = omega (arith, adds_fits l (read_off v) e)

  -- a page of either form whose SVIDs cannot be added, or that is all zeros on an empty list
  full_bad : is_full v ≡ true → BadPage l v → adds l v ≡ true → ⊥
  full_bad f (neither_form no_full no_ending) e = no_full ((full_exactly v).0 f)
  full_bad f (gathered_again a) e = again_clashes a (ap (adds l) (full_read v f) ∙ e)
  full_bad f (stands_twice t) e = twice_clashes t (ap (adds l) (full_read v f) ∙ e)
  full_bad f (past_72 p) e = past_clashes p (ap (adds l) (full_read v f) ∙ e)
  full_bad f (all_zeros empty zeros) e = omega (arith, none_before v zeros, ap length (full_read v f), full_twelve v f)

  ending_bad_for : is_ending v ≡ true → BadPage l v → nothing (length l) (before v) ≡ false → adds l (read_off v) ≡ true → ⊥
  ending_bad_for f (neither_form no_full no_ending) n e = no_ending ((ending_exactly v).0 f)
  ending_bad_for f (gathered_again a) n e = again_clashes a e
  ending_bad_for f (stands_twice t) n e = twice_clashes t e
  ending_bad_for f (past_72 p) n e = past_clashes p e
  ending_bad_for f (all_zeros empty zeros) n e =
      false≢true (sym n ∙ rw (eq-eqb (length l) 0 (ap length empty), eq-eqb (before v) 0 (none_before v zeros)))

  -- so the page is judged in 01's words,
  judged_ending_lem : (RepeatPage l v → ⊥) → (FullPage v → ⊥) → JudgedAs l v (judged_ending l v)
  judged_ending_lem new short = go (is_ending v) (nothing (length l) (before v)) (adds l (read_off v)) refl refl refl
    where
      go : (e n a : Bool) → is_ending v ≡ e → nothing (length l) (before v) ≡ n → adds l (read_off v) ≡ a →
          JudgedAs l v (cond (e && (not n && a)) (ends (read_off v)) bad)
      go false n a ee en ea = as_bad refl new (neither_form short (λ (p : EndingPage v). false≢true (sym ee ∙ (ending_exactly v).1 p)))
      go true true a ee en ea =
          as_bad refl new
          (all_zeros (empty_list l (eqb-true (length l) 0 (and_left (eqb (length l) 0) _ en)))
          (λ k h. zeros_alone v (eqb-true (before v) 0 (and_right (eqb (length l) 0) _ en)) ee k))
      go true false true ee en ea = as_ending refl new short ((ending_exactly v).0 ee) (λ (b : BadPage l v). ending_bad_for ee b en ea)
      go true false false ee en ea = as_bad refl new (clashes (read_off v) refl ea)

  judged_as : JudgedAs l v (judged l v)
  judged_as = go (is_repeat l v) (is_full v) (adds l v) refl refl refl
    where
      new : is_repeat l v ≡ false → RepeatPage l v → ⊥
      new e r = false≢true (sym e ∙ (repeat_exactly l v).1 r)

      go : (r f a : Bool) → is_repeat l v ≡ r → is_full v ≡ f → adds l v ≡ a →
          JudgedAs l v (cond r repeats (cond f (cond a (full v) bad) (judged_ending l v)))
      go true f a er ef ea = as_repeat refl ((repeat_exactly l v).0 er)
      go false true true er ef ea = as_full refl (new er) ((full_exactly v).0 ef) (λ (b : BadPage l v). full_bad ef b ea)
      go false true false er ef ea = as_bad refl (new er) (clashes v (full_read v ef) ea)
      go false false a er ef ea = judged_ending_lem (new er) (λ (f : FullPage v). false≢true (sym ef ∙ (full_exactly v).1 f))

  -- and in one way alone
  one_way : (j other : Judged) → JudgedAs l v j → JudgedAs l v other → j ≡ other
  one_way j other (as_repeat e r) (as_repeat f s) = e ∙ sym f
  one_way j other (as_repeat e r) (as_bad f new b) = absurd (new r)
  one_way j other (as_repeat e r) (as_full f new p good) = absurd (new r)
  one_way j other (as_repeat e r) (as_ending f new short p good) = absurd (new r)
  one_way j other (as_bad e new b) (as_repeat f r) = absurd (new r)
  one_way j other (as_bad e new b) (as_bad f new' b') = e ∙ sym f
  one_way j other (as_bad e new b) (as_full f new' p good) = absurd (good b)
  one_way j other (as_bad e new b) (as_ending f new' short p good) = absurd (good b)
  one_way j other (as_full e new p good) (as_repeat f r) = absurd (new r)
  one_way j other (as_full e new p good) (as_bad f new' b) = absurd (good b)
  one_way j other (as_full e new p good) (as_full f new' p' good') = e ∙ sym f
  one_way j other (as_full e new p good) (as_ending f new' short p' good') = absurd (short p)
  one_way j other (as_ending e new short p good) (as_repeat f r) = absurd (new r)
  one_way j other (as_ending e new short p good) (as_bad f new' b) = absurd (good b)
  one_way j other (as_ending e new short p good) (as_full f new' p' good') = absurd (short p')
  one_way j other (as_ending e new short p good) (as_ending f new' short' p' good') = e ∙ sym f

  -- a page is judged so exactly when 01's words say so
  pub judged_exactly : (j : Judged) → (judged l v ≡ j) ↔ JudgedAs l v j
  judged_exactly j = (λ e. subst (JudgedAs l v) e judged_as, λ a. one_way (judged l v) j judged_as a)

  -- it is bad exactly when it is no repeat and one of 01's four
  bad_because : JudgedAs l v (judged l v) → is_bad (shown (judged l v)) ≡ true → (RepeatPage l v → ⊥) × BadPage l v
  bad_because (as_repeat e r) b = absurd (false≢true (sym (ap (λ (j : Judged). is_bad (shown j)) e) ∙ b))
  bad_because (as_bad e new why) b = (new, why)
  bad_because (as_full e new p good) b = absurd (false≢true (sym (ap (λ (j : Judged). is_bad (shown j)) e) ∙ b))
  bad_because (as_ending e new short p good) b = absurd (false≢true (sym (ap (λ (j : Judged). is_bad (shown j)) e) ∙ b))

  pub bad_exactly : (verdict l v ≡ Bad) ↔ ((RepeatPage l v → ⊥) × BadPage l v)
  unfolding verdict
  bad_exactly = (λ e. bad_because judged_as (ap is_bad e), λ b. ap shown ((judged_exactly bad).1 (as_bad refl b.0 b.1)))

  -- the code's verdict says what the page is
  pub says_judged : meant v (verdict l v) ≡ judged l v
  unfolding verdict
  says_judged = go (is_repeat l v) (is_full v) (adds l v) (is_ending v && (not (nothing (length l) (before v)) && adds l (read_off v)))
    where
      go : (r f a e : Bool) → meant v (shown (cond r repeats (cond f (cond a (full v) bad) (cond e (ends (read_off v)) bad)))) ≡
          cond r repeats (cond f (cond a (full v) bad) (cond e (ends (read_off v)) bad))
      go true f a e = refl
      go false true true e = refl
      go false true false e = refl
      go false false a true = ap ends (take_before v)
      go false false a false = refl
