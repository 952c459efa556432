use Rattle.std.proofs.Common.{subst, sym, ℕ, length, rules, ◌≡◌, true, length-append}
use Rattle.std.specs.Global.{Vec}
use Rattle.std.proofs.lemmas.Slice.Zip.{zip_turn}
use Rattle.sp_words.specs.declared.interface.PortDecl.{PortDecl}
use Rattle.sp_words.specs.Interface.{DramFits}
use Rattle.sp_words.proofs.InterfaceLemmas.{lengths_agree, zip_more, zip_not}
use Rattle.sp_words.proofs.interface.drams_fit.Goals as goal

abbrev contents_fit : PortDecl → Vec ℕ → Type 0
contents_fit port words = DramFits port words.items

pub returns-then-ports-contents : goal.returns-then-ports-contents
returns-then-ports-contents c =
    (λ t. cc, λ all. absurd (lengths_agree contents_fit c.args.ports.now c.args.contents.now c.if-ports-contents.true all))

pub returns-then-not-dram_fits : goal.returns-then-not-dram_fits
returns-then-not-dram_fits c =
    let turn = zip_turn c.args.ports.now c.args.contents.now c.loop-port.yielded c.into_iter-port-iterator.result c.loop-port.port-iterator c.next.new.self c.next.result (search rules) (search rules) c.loop-port.yielded_by (c.in-Some.port, c.in-Some.words) c.in-Some.is c.next.ensures.steps in
    let not_so = λ (fine : contents_fit c.in-Some.port.now c.in-Some.words.now). let passed : c.dram_fits.result ≡ true = c.dram_fits.ensures.1 (subst (DramFits c.in-Some.port.now) (sym c.deref.ensures.value) fine) in let no : ⊥ = cc in no in
    (λ t. cc, λ all. absurd (zip_not contents_fit c.args.ports.now c.args.contents.now _ c.in-Some.port.now c.in-Some.words.now turn.0 (turn.2 _) (turn.3 _) not_so all))

pub loop-port-preserved : goal.loop-port-preserved
loop-port-preserved c =
    let turn = zip_turn c.args.ports.now c.args.contents.now c.loop-port.yielded c.into_iter-port-iterator.result c.loop-port.port-iterator c.next.new.self c.next.result (search rules) (search rules) c.loop-port.yielded_by (c.in-Some.port, c.in-Some.words) c.in-Some.is c.next.ensures.steps in
    rw length-append (zip_more contents_fit c.args.ports.now c.args.contents.now (length c.loop-port.yielded) c.in-Some.port.now c.in-Some.words.now turn.0 turn.1 (turn.2 _) (turn.3 _) (subst (DramFits c.in-Some.port.now) c.deref.ensures.value (c.dram_fits.ensures.0 c.if-not-dram_fits.false)) c.loop-port.invariant)
