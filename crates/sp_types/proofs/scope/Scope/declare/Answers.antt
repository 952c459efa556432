use Rattle.std.proofs.Common.{refl, sym, ap, ◌≡◌, ◌∙◌, false, is_some}
use Rattle.std.specs.Prelude.{string_bytes}
use Rattle.std.specs.Map as entries
use Rattle.std.specs.String.{string_eq}
use Rattle.std.specs.Str.{bytes_eq}
use Rattle.indexmap.proofs.CallerLemmas.{insert_entry-new}
use Rattle.sp_types.specs.Plain.{plain_symbol}
use Rattle.sp_types.proofs.ScopeLemmas.{declared_there, declared_new, not_there}
use Rattle.sp_types.proofs.scope.Scope.declare.Goals as goal

pub returns-then-contains_key : goal.returns-then-contains_key
returns-then-contains_key c =
    declared_there c.args.self.now c.args.name.now (plain_symbol c.args.symbol) (sym c.if-contains_key.true ∙ c.contains_key.ensures)

pub returns : goal.returns
returns c =
    let key = c.in_ok-from_str.field-0 in
    let es = c.args.self.now.names.entries in
    let named : string_bytes key ≡ c.args.name.now = c.in_ok-from_str.ensures.ok in
    let absent : is_some (entries.lookup (string_eq key) es) ≡ false =
    ap (λ bs. is_some (entries.lookup (λ k. bytes_eq bs (string_bytes k)) es)) named ∙ sym c.contains_key.ensures ∙ c.if-contains_key.false in
    declared_new c.args.self.now (record { names = c.insert.new.self; busy = c.args.self.now.busy }) c.args.name.now key c.args.symbol
    (sym c.if-contains_key.false ∙ c.contains_key.ensures)
    (c.in_ok-insert.ensures.entries ∙ insert_entry-new string_eq c.args.self.now.names key c.args.symbol (not_there _ absent))
    refl named
