-- What a line of output says, as the list of its bytes.
use Rattle.std.specs.Prelude.{ℕ, List, take}
use Rattle.text.specs.declared.buffer.Line.{Line}

abbrev pub said : {n : ℕ} → Line n → List ℕ
said line = take line.end line.bytes
