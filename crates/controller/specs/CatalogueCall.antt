-- What catalogue writing promises, over the numbers that are lent.
use Rattle.std.specs.Prelude.{◌≡◌, ℕ, List, length}
use Rattle.catalogue.specs.Bytes.{HeldCatalogue, catalogue_refusal, written_bytes, written_into}
use Rattle.laws.specs.Lent.{Lent, lent, left, accepted}

-- the refusal number, on acceptance how many bytes were written, and the whole output buffer
pub record CatalogueCall (held : HeldCatalogue) (run : List ℕ) (number : ℕ) (out : Lent (List ℕ)) (bytes : Lent ℕ) : Type 0 where
  pub number_is : number ≡ catalogue_refusal held (length run) (length (lent out))
  pub bytes_is : left bytes ≡ accepted number (length (written_bytes held (length run) (length (lent out)))) (lent bytes)
  pub buffer_is : left out ≡ written_into (lent out) (written_bytes held (length run) (length (lent out)))
