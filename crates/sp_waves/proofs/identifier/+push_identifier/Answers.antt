use Rattle.std.proofs.Common.{string_bytes}
use Rattle.sp_waves.proofs.IdentifierLemmas.{last_character, more_characters, pushed}
use Rattle.sp_waves.proofs.identifier.+push_identifier.Goals as goal

pub returns-in_ok-push_identifier : goal.returns-in_ok-push_identifier
returns-in_ok-push_identifier t c =
    let text = string_bytes c.args.text.now in
    let old = string_bytes c.push.new.self in
    more_characters text old (string_bytes c.push_identifier.new.text) c.args.number c.if-number-ge94.true
    (pushed text old _ c.args.number c.from.result c.from.ensures c.in_ok-push.ensures.ascii c.in_ok-push.ensures.bytes) c.in_ok-push_identifier.ensures

pub returns-else-number-ge94 : goal.returns-else-number-ge94
returns-else-number-ge94 t c =
    let text = string_bytes c.args.text.now in
    let old = string_bytes c.push.new.self in
    last_character text old c.args.number c.if-number-ge94.false (pushed text old _ c.args.number c.from.result c.from.ensures c.in_ok-push.ensures.ascii c.in_ok-push.ensures.bytes)
