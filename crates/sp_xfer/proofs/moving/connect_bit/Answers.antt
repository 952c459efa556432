use Rattle.std.proofs.Common.{◌<◌, ◌==◌, refl, sym, ap, subst, ◌∙◌}
use Rattle.sp_words.specs.declared.types.Ty.TheVariants.{Bit}
use Rattle.sp_gates.proofs.Growing.{drive_fills}
use Rattle.sp_gates.proofs.Running.{last_obeyed, runs_earlier}
use Rattle.sp_gates.proofs.Words.{equal_word}
use Rattle.sp_xfer.proofs.Keeping.{flag_small, flag_tells}
use Rattle.sp_xfer.proofs.moving.connect_bit.Goals as goal

pub returns-clause-fills : goal.returns-clause-fills
returns-clause-fills c =
    let a = c.in_ok-add.ensures in
    drive_fills _ c.add.new.self _ _ 1 refl refl (λ bank. refl) a.added a.keeps a.draft a.same_nets a.drivers

pub returns-clause-bit : goal.returns-clause-bit
returns-clause-bit c = λ s run t.
    let always = c.requires.one.always s (runs_earlier _ _ s (returns-clause-fills c).grows run) t in
    subst (λ w. w < 2) (sym (last_obeyed s _ _ _ c.in_ok-add.ensures.added run t ∙ equal_word Bit (s.net t c.args.from) (s.net t c.args.one) 1 always)) (flag_small (s.net t c.args.from == 1))

pub returns-clause-on : goal.returns-clause-on
returns-clause-on c = λ s run t.
    let always = c.requires.one.always s (runs_earlier _ _ s (returns-clause-fills c).grows run) t in
    ap (λ n. n == 1) (last_obeyed s _ _ _ c.in_ok-add.ensures.added run t ∙ equal_word Bit (s.net t c.args.from) (s.net t c.args.one) 1 always) ∙ flag_tells (s.net t c.args.from == 1)
