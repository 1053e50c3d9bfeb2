-- The ways out of reading a catalogue.
use mathlib.Core.Path.{◌≡◌, ap, ap₂, sym, ◌∙◌}
use mathlib.Core.List.{List, [], ◌∷◌, ◌++◌, append_assoc}
use Prim.Native.Nat.{ℕ, ◌+◌, ◌*◌, ◌<◌, ◌≤◌}
use native.Mathlib.Omega.{arith}
use lib.ListN.{length, take, drop}
use lib.Seq.{drop_at}
use borrow.Author.Tests.{lt-ltb, le-ltb, eq-eqb, ne_eqb}
use Rattle.laws.specs.Bounded.{Below}
use Rattle.laws.specs.Padded.{padded}
use Rattle.messages.specs.Layout.{objects_of, bytes_of}
use Rattle.messages.proofs.Objects.{length_bytes}
use Rattle.laptop.specs.Catalogue.{Entry, Catalogue, run_words}
use Rattle.catalogue.specs.Bytes.{end_kind, entries_bytes, catalogue_bytes}
use Rattle.judging.specs.Judging.{Judgement, judgement_of, FileJudged}
use Rattle.judging.specs.Walking.{walk_of}
use Rattle.judging.specs.Judging.{Judged}
use Rattle.judging.specs.declared.walk.Walk.{Walk}
use Rattle.catalogue_laws.proofs.Judged.{number_is, walk_is}
use Rattle.catalogue_laws.proofs.Limits.{accepted_within}
use Rattle.catalogue_laws.proofs.Reading.{objects_again}
use Rattle.catalogue_laws.proofs.WriteRead.{write_read}
use Rattle.rebuilding.specs.Putting.{Standing}
use Rattle.rebuilding.specs.Rebuilding.{Arrays, modes_into, rebuilt, short_run, refused_at, read_as, read_into, CatalogueRead}
use Rattle.rebuilding.specs.Rebuilding.{Rebuilt}

-- a catalogue's bytes, behind the kind of its identity and behind its objects
behind_kind : (c : Catalogue) → drop 1 (catalogue_bytes c) ≡ bytes_of c.identity ++ (entries_bytes c.entries ++ end_kind ∷ [])
unfolding catalogue_bytes
behind_kind c = append_assoc (bytes_of c.identity) (entries_bytes c.entries) (end_kind ∷ [])

behind_identity : (c : Catalogue) → drop (1 + length c.identity * 4) (catalogue_bytes c) ≡ entries_bytes c.entries ++ end_kind ∷ []
unfolding catalogue_bytes
behind_identity c =
    ap (drop (1 + length c.identity * 4)) (ap (λ (l : List ℕ). length c.identity ∷ l) (append_assoc (bytes_of c.identity) (entries_bytes c.entries) (end_kind ∷ []))) ∙
    drop_at (length c.identity ∷ bytes_of c.identity) (entries_bytes c.entries ++ end_kind ∷ []) (1 + length c.identity * 4) (omega (arith, length_bytes c.identity))

module _ (bytes : List ℕ) (before : Arrays) where
  -- 11 first
  pub read_short : length before.run < run_words → (result : Rebuilt) → result ≡ refused_at short_run 0 → CatalogueRead bytes before result before
  unfolding read_as read_into
  read_short few result e = let t = lt-ltb _ _ few in record { result_is = simp t e; arrays_are = simp t }

  module _ (enough : run_words ≤ length before.run) {judged : Judged} {list numbers : List ℕ} (is : FileJudged bytes judged list numbers) where
    abbrev j : Judgement
    j = judgement_of bytes

    -- a fault of the file
    pub read_fault : (judged.refusal ≡ 0 → ⊥) → (result : Rebuilt) → result ≡ refused_at judged.refusal judged.walk.at → CatalogueRead bytes before result before
    unfolding read_as read_into walk_of
    read_fault fault result e =
        let t = le-ltb _ _ enough in
        let f = ne_eqb j.refusal 0 (λ z. fault (number_is is ∙ z)) in
        record {
          result_is = simp (t, f) (e ∙ ap₂ refused_at (number_is is) (ap (λ (w : Walk). w.at) (walk_is is)));
          arrays_are = simp (t, f);
        }

    -- a sound file: what stands where
    module _ (sound : judged.refusal ≡ 0) (b : Below 256 bytes) where
      accepted : j.refusal ≡ 0
      accepted = sym (number_is is) ∙ sound

      same : bytes ≡ catalogue_bytes j.catalogue
      same = sym (write_read bytes b accepted)

      extent_is : judged.walk.extent ≡ length j.catalogue.identity
      unfolding walk_of
      extent_is = ap (λ (w : Walk). w.extent) (walk_is is)

      standing : Standing j.catalogue.entries bytes judged.walk numbers
      unfolding walk_of
      standing = record {
        count_is = ap (λ (w : Walk). w.count) (walk_is is);
        numbers_are = is.numbers_are;
        bytes_are = ap₂ (λ (n : ℕ) (l : List ℕ). drop (1 + n * 4) l) extent_is same ∙ behind_identity j.catalogue;
        fits = (accepted_within bytes b accepted).fits.entries_fit;
      }

      identity_is : take judged.walk.extent (objects_of (drop 1 bytes)) ≡ j.catalogue.identity
      identity_is =
          ap₂ (λ (n : ℕ) (l : List ℕ). take n (objects_of l)) extent_is (ap (drop 1) same ∙ behind_kind j.catalogue) ∙
          objects_again j.catalogue.identity (entries_bytes j.catalogue.entries ++ end_kind ∷ []) (accepted_within bytes b accepted).fits.identity_fits

      pub read_sound : (identity svids counts run : List ℕ) → identity ≡ padded (take judged.walk.extent (objects_of (drop 1 bytes))) → svids ≡ list → counts ≡ numbers →
          ((entries : List Entry) → Standing entries bytes judged.walk numbers → run ≡ modes_into before.run 0 entries) → (result : Rebuilt) →
          result ≡ record { refusal = 0; at = judged.walk.at; extent = judged.walk.extent; count = judged.walk.count; modes = judged.walk.modes } →
          CatalogueRead bytes before result (record { identity = identity; svids = svids; numbers = counts; run = run })
      unfolding read_as read_into rebuilt walk_of
      read_sound identity svids counts run ei es en er result e =
          let t = le-ltb _ _ enough in
          let z = eq-eqb j.refusal 0 accepted in
          let i : identity ≡ padded j.catalogue.identity = ei ∙ ap padded identity_is in
          let s = es ∙ is.svids_are in
          let n = en ∙ is.numbers_are in
          let r = er j.catalogue.entries standing in
          record {
            result_is = simp (t, z) (e ∙ ap (λ (w : Walk). record { refusal = 0; at = w.at; extent = w.extent; count = w.count; modes = w.modes }) (walk_is is));
            arrays_are = simp (t, z) (arrays i s n r);
          }
        where
          arrays : {p q r s p' q' r' s' : List ℕ} → p ≡ p' → q ≡ q' → r ≡ r' → s ≡ s' →
              ◌≡◌ {A = Arrays} (record { identity = p; svids = q; numbers = r; run = s }) (record { identity = p'; svids = q'; numbers = r'; run = s' })
          arrays ep eq er es = cc
