-- `identity_or_unknown` meets its promise.
use mathlib.Core.Path.{sym, ◌∙◌}
use Rattle.records.proofs.Finding.{none_known}
use Rattle.records.proofs.identity_or_unknown.Goals as goal

pub identity_in-requires : goal.identity_in-requires
identity_in-requires c =
    (c.requires.0, c.requires.1, sym c.is_identity.ensures ∙ c.if-is_identity.true)

pub returns-else-is_identity : goal.returns-else-is_identity
returns-else-is_identity c =
    sym (none_known c.args.bytes.now c.requires.0 c.args.kind c.requires.1 (sym c.is_identity.ensures ∙ c.if-is_identity.false) c.requires.2 c.requires.3 c.requires.4)
