use Rattle.std.proofs.Common.{◌≡◌, string_bytes}
use Rattle.std.proofs.lemmas.Result.{IfOk-at_ok}
use Rattle.sp_listing.proofs.NameLemmas.{names_added}
use Rattle.sp_listing.proofs.names.add_name.Goals as goal

pub returns : goal.returns
returns c = λ known h.
    let key = IfOk-at_ok (λ s. string_bytes s ≡ c.args.name.now) c.in_ok-name.was c.from_str.ensures.ok in
    names_added known c.args.name.now (string_bytes c.in_ok-name.name) c.args.names.now c.insert.new.self key h c.in_ok-insert.ensures.updates
