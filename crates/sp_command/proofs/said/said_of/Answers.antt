use Rattle.std.proofs.Common.{◌≡◌, ◌∙◌, ap, sym, All, map, string_bytes, [], ◌∷◌, option_map, codes, None, inl, inr}
use Rattle.std.proofs.lemmas.List.Elements.{All-map}
use Rattle.std.proofs.lemmas.Option.{IfSome_then}
use Rattle.clap.specs.Faults.{fault_of, is_simple_and_free}
use Rattle.clap.specs.Words.{App, found_of, is_simple, matches_of, rows_of}
use Rattle.sp_command.specs.Commands.{IsFileWord}
use Rattle.sp_command.specs.Table.{table}
use Rattle.sp_command.proofs.Finding.{are_taken, as_many, before_map, first_are_found, has_fault, seen, word_listed, words_found}
use Rattle.sp_command.proofs.Parsing.{table_is_free, table_is_simple}
use Rattle.sp_command.proofs.said.said_of.Goals as goal

pub returns-in-Ok-clause-some : goal.returns-in-Ok-clause-some
returns-in-Ok-clause-some c =
    let words = map string_bytes c.args.words.now in
    let app = c.in_ok-table.ensures in
    let all : All IsFileWord words = All-map IsFileWord string_bytes c.args.words.now (c.are_file_words.ensures.0 c.if-not-are_file_words.false) in
    let rows : rows_of (found_of c.in-Ok.matches) ≡ matches_of table words = (c.in-Ok.ensures.matches (ap is_simple app ∙ table_is_simple)).0 ∙ ap (λ (a : App). matches_of a words) app in
    let faultless : fault_of table words ≡ [] = sym (ap (λ (a : App). fault_of a words) app) ∙ c.in-Ok.ensures.kinds (ap is_simple_and_free app ∙ table_is_free) in
    IfSome_then c.found_in.result c.found_in.ensures.some (λ said h.
    let second = option_map (λ w. w.now) said.second in (
      ap (λ rest. said.verb.now ∷ said.first.now ∷ rest) (word_listed said.second)
          ∙ words_found words all faultless said.verb.now said.first.now second (seen (found_of c.in-Ok.matches) words (codes "verb") _ rows h.0) (seen (found_of c.in-Ok.matches) words (codes "first") _ rows h.1)
          (seen (found_of c.in-Ok.matches) words (codes "second") _ rows h.2),
      all,
    ))

pub returns-in-Ok-clause-none : goal.returns-in-Ok-clause-none
returns-in-Ok-clause-none c = λ none all number.
    let words = map string_bytes c.args.words.now in
    let app = c.in_ok-table.ensures in
    let rows : rows_of (found_of c.in-Ok.matches) ≡ matches_of table words = (c.in-Ok.ensures.matches (ap is_simple app ∙ table_is_simple)).0 ∙ ap (λ (a : App). matches_of a words) app in
    let firsts = first_are_found words all (as_many string_bytes c.args.words.now number) in
    elim (c.found_in.ensures.none none) [
      | inl e ↦ let bad = sym (seen (found_of c.in-Ok.matches) words (codes "verb") None rows e) ∙ firsts.2 in cc
      | inr e ↦ let bad = sym (seen (found_of c.in-Ok.matches) words (codes "first") None rows e) ∙ firsts.3 in cc
    ]

pub returns-clause-none : goal.returns-clause-none
returns-clause-none c = λ none all number.
    let words = map string_bytes c.args.words.now in
    let app = c.in_ok-table.ensures in
    let faultless = ap (λ (a : App). fault_of a words) app ∙ are_taken words all (as_many string_bytes c.args.words.now number) in
    has_fault _ c.in-Err.error (c.in-Err.ensures.kinds (ap is_simple_and_free app ∙ table_is_free)) faultless (λ e.
    let same = c.kind.ensures ∙ e in
    let apart = sym c.if-eq.false ∙ c.eq.ensures in
    let bad = rw same at apart in cc)

pub returns-then-not-are_file_words-clause-none : goal.returns-then-not-are_file_words-clause-none
returns-then-not-are_file_words-clause-none c = λ none all number.
    let yes = c.are_file_words.ensures.1 (before_map IsFileWord string_bytes c.args.words.now all) in
    let bad = sym yes ∙ c.if-not-are_file_words.true in cc
