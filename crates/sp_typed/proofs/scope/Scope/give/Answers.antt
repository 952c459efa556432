use Rattle.std.proofs.Common.{refl, sym, ap, ◌≡◌, ◌∙◌, false, is_some}
use Rattle.std.specs.Prelude.{string_bytes}
use Rattle.std.specs.Map as entries
use Rattle.std.specs.String.{string_eq}
use Rattle.std.specs.Str.{bytes_eq}
use Rattle.indexmap.proofs.CallerLemmas.{insert_entry-new}
use Rattle.sp_types.proofs.ScopeLemmas.{not_there}
use Rattle.sp_typed.specs.Plain.{plain_symbol}
use Rattle.sp_typed.proofs.ScopeLemmas.{given_there, given_new}
use Rattle.sp_typed.proofs.scope.Scope.give.Goals as goal

pub returns-then-contains_key : goal.returns-then-contains_key
returns-then-contains_key c =
    given_there c.args.self.now c.args.name.now (plain_symbol c.args.symbol) c.args.number (sym c.if-contains_key.true ∙ c.contains_key.ensures)

pub returns : goal.returns
returns c =
    let key = c.in_ok-from_str.field-0 in
    let es = c.args.self.now.names.entries in
    let named : string_bytes key ≡ c.args.name.now = c.in_ok-from_str.ensures.ok in
    let absent : is_some (entries.lookup (string_eq key) es) ≡ false =
    ap (λ bs. is_some (entries.lookup (λ k. bytes_eq bs (string_bytes k)) es)) named ∙ sym c.contains_key.ensures ∙ c.if-contains_key.false in
    given_new c.args.self.now (record { names = c.insert.new.self; mems = c.args.self.now.mems; vals = c.args.self.now.vals; counters = c.args.self.now.counters }) c.args.name.now key
    (record { symbol = c.args.symbol; number = c.args.number })
    (sym c.if-contains_key.false ∙ c.contains_key.ensures)
    (c.in_ok-insert.ensures.entries ∙ insert_entry-new string_eq c.args.self.now.names key (record { symbol = c.args.symbol; number = c.args.number }) (not_there _ absent))
    refl refl refl named
