use Rattle.std.proofs.Common.{length, rules, ◌≡◌, true, length-append}
use Rattle.std.proofs.lemmas.Slice.Zip.{zip_turn}
use Rattle.sp_words.specs.Interface.{ArgFits}
use Rattle.sp_words.proofs.InterfaceLemmas.{lengths_agree, zip_more, zip_not}
use Rattle.sp_words.proofs.interface.args_fit.Goals as goal

pub returns-then-ports-words : goal.returns-then-ports-words
returns-then-ports-words c =
    (λ t. cc, λ all. absurd (lengths_agree ArgFits c.args.ports.now c.args.words.now c.if-ports-words.true all))

pub returns-then-not-is_word : goal.returns-then-not-is_word
returns-then-not-is_word c =
    let turn = zip_turn c.args.ports.now c.args.words.now c.loop-port.yielded c.into_iter-port-iterator.result c.loop-port.port-iterator c.next.new.self c.next.result (search rules) (search rules) c.loop-port.yielded_by (c.in-Some.port, c.in-Some.word) c.in-Some.is c.next.ensures.steps in
    let not_so = λ (fine : ArgFits c.in-Some.port.now c.in-Some.word.now). let passed : c.is_word.result ≡ true = c.is_word.ensures.1 fine in let no : ⊥ = cc in no in
    (λ t. cc, λ all. absurd (zip_not ArgFits c.args.ports.now c.args.words.now _ c.in-Some.port.now c.in-Some.word.now turn.0 (turn.2 _) (turn.3 _) not_so all))

pub loop-port-preserved : goal.loop-port-preserved
loop-port-preserved c =
    let turn = zip_turn c.args.ports.now c.args.words.now c.loop-port.yielded c.into_iter-port-iterator.result c.loop-port.port-iterator c.next.new.self c.next.result (search rules) (search rules) c.loop-port.yielded_by (c.in-Some.port, c.in-Some.word) c.in-Some.is c.next.ensures.steps in
    rw length-append (zip_more ArgFits c.args.ports.now c.args.words.now (length c.loop-port.yielded) c.in-Some.port.now c.in-Some.word.now turn.0 turn.1 (turn.2 _) (turn.3 _) (c.is_word.ensures.0 c.if-not-is_word.false) c.loop-port.invariant)
