use Rattle.std.proofs.Common.{◌≡◌, ap, ◌∙◌, List, ℕ, map, take, String, Global}
use Rattle.std.specs.Prelude.{string_bytes}
use Rattle.sp_types.specs.Visible.{PlainSymbol, Visible}
use Rattle.sp_types.proofs.ScopeLemmas.{entry_of, take_shown}
use Rattle.sp_types.proofs.scope.Scope.leave.Goals as goal

pub returns : goal.returns
returns c =
    let shown : List (List ℕ × PlainSymbol) → List (List ℕ) → Visible = λ ns bs. record { names = ns; busy = bs } in
    let names = ap (map entry_of) c.truncate.ensures.entries ∙ take_shown entry_of c.args.mark.names c.args.self.now.names.entries in
    let bytes : String Global → List ℕ = λ s. string_bytes s in
    let busy = ap (map bytes) c.truncate-2.ensures.items ∙ take_shown bytes c.args.mark.busy c.args.self.now.busy.items in
    ap (λ ns. shown ns (map bytes c.truncate-2.new.self.items)) names ∙ ap (shown (take c.args.mark.names (map entry_of c.args.self.now.names.entries))) busy
