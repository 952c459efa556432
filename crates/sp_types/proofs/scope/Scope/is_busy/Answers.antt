use Rattle.std.proofs.Common.{sym, ◌∙◌, ap, List, String, Global, Bool}
use Rattle.std.specs.Prelude.{string_bytes}
use Rattle.std.specs.List.{list_any}
use Rattle.std.specs.Str.{bytes_eq}
use Rattle.sp_types.specs.Visible.{is_busy}
use Rattle.sp_types.proofs.ScopeLemmas.{any_shown}
use Rattle.sp_types.proofs.scope.Scope.is_busy.Goals as goal

pub returns : goal.returns
unfolding is_busy
returns c =
    c.is_among.ensures
    ∙ ap (list_any (λ (word : String Global). bytes_eq (string_bytes word) c.args.name.now)) c.deref.ensures.value
    ∙ sym (any_shown (λ acc. bytes_eq acc c.args.name.now) c.args.self.now.busy.items)
