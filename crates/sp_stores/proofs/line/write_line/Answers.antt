use Rattle.std.proofs.Common.{ℕ, List, [], length, map, subst, sym, ap, ◌∙◌}
use Rattle.std.proofs.lemmas.List.{length-map}
use Rattle.sp_gates.proofs.Growing.{Fills-join}
use Rattle.sp_gates.proofs.Running.{runs_earlier}
use Rattle.sp_access.specs.declared.access.Access.{Access}
use Rattle.sp_bank_ports.specs.Ports.{IsLastWrite}
use Rattle.sp_stores.proofs.Kept.{words_kept, word_nets}
use Rattle.sp_stores.proofs.line.write_line.Goals as goal

pub write_port-requires-clause-accesses : goal.write_port-requires-clause-accesses
write_port-requires-clause-accesses c = rw c.deref.ensures.value c.in_ok-accesses.ensures.fit

pub write_port-requires-clause-each : goal.write_port-requires-clause-each
write_port-requires-clause-each c =
    ap length (c.deref-2.ensures.value ∙ c.in_ok-words.ensures) ∙ length-map c.args.requests.now (λ r. r.word) ∙ sym c.in_ok-accesses.ensures.each ∙ ap length (sym c.deref.ensures.value)

pub write_port-requires-clause-words : goal.write_port-requires-clause-words
write_port-requires-clause-words c =
    rw (c.deref-2.ensures.value, c.in_ok-words.ensures) (word_nets c.accesses_to.new.builder c.args.width c.args.requests.now (words_kept _ _ c.in_ok-accesses.ensures.fills.grows c.args.width c.args.requests.now c.requires.words))

pub returns-clause-fills : goal.returns-clause-fills
returns-clause-fills c = Fills-join _ _ _ [] [] c.in_ok-accesses.ensures.fills c.in_ok-port.ensures.fills

pub returns-clause-line : goal.returns-clause-line
returns-clause-line c = λ s run t. record {
  accesses = c.in_ok-accesses.accesses.items;
  asks = c.in_ok-accesses.ensures.accesses s (runs_earlier _ _ s c.in_ok-port.ensures.fills.grows run) t;
  last = subst (λ (es : List Access). IsLastWrite s t es (map (λ r. r.word) c.args.requests.now) c.in_ok-port.port) c.deref.ensures.value
      (subst (λ (ws : List ℕ). IsLastWrite s t c.deref.result.now ws c.in_ok-port.port) (c.deref-2.ensures.value ∙ c.in_ok-words.ensures) (c.in_ok-port.ensures.last s run t));
}
