-- The checks of a table in their order, each after those before it.
use Rattle.std.proofs.Common.{◌≡◌, codes, Option, None, subst}
use Rattle.toml.specs.Data.{Members}
use Rattle.sp_words.specs.Ports.{PlainPorts}
use Rattle.sp_setup.specs.declared.error.SetupEnd.{SetupEnd}
use Rattle.sp_setup.specs.Refusal.{Refusal, IsRefusal}
use Rattle.sp_setup.specs.Checks.{top_keys_check, count_check, most_turns, most_cycles, integer_at, delays_check, delay_items, args_keys_check, args_section, arguments_check, dram_keys_check, dram_section, table_check}
use Rattle.sp_setup.proofs.TableLemmas.{refused-here, refused-later, passed-more, passed-all}

module _ (ports : PlainPorts) (top : Members) where
  abbrev turns : Option Refusal
  turns = count_check (codes "turns") most_turns (integer_at (codes "turns") top)

  abbrev cycles : Option Refusal
  cycles = count_check (codes "cycles") most_cycles (integer_at (codes "cycles") top)

  pub keys-refuse : (end : SetupEnd) → IsRefusal (top_keys_check top) end → IsRefusal (table_check ports top) end
  unfolding table_check
  keys-refuse end is = refused-here _ _ end is

  pub turns-refuse : (end : SetupEnd) → top_keys_check top ≡ None → IsRefusal turns end → IsRefusal (table_check ports top) end
  unfolding table_check
  turns-refuse end a is = refused-later _ _ end a (refused-here _ _ end is)

  pub cycles-refuse : (end : SetupEnd) → top_keys_check top ≡ None → turns ≡ None → IsRefusal cycles end → IsRefusal (table_check ports top) end
  unfolding table_check
  cycles-refuse end a b is = refused-later _ _ end a (refused-later _ _ end b (refused-here _ _ end is))

  pub delays-refuse : (end : SetupEnd) → top_keys_check top ≡ None → turns ≡ None → cycles ≡ None → IsRefusal (delays_check (delay_items top)) end → IsRefusal (table_check ports top) end
  unfolding table_check
  delays-refuse end a b d is = refused-later _ _ end a (refused-later _ _ end b (refused-later _ _ end d (refused-here _ _ end is)))

  pub names-refuse : (end : SetupEnd) (args : Members) → args ≡ args_section top → top_keys_check top ≡ None → turns ≡ None → cycles ≡ None → delays_check (delay_items top) ≡ None
      → IsRefusal (args_keys_check ports.args args) end → IsRefusal (table_check ports top) end
  unfolding table_check
  names-refuse end args same a b d f is =
      let P : Members → Type 0 = λ args. IsRefusal (args_keys_check ports.args args) end in
      refused-later _ _ end a (refused-later _ _ end b (refused-later _ _ end d (refused-later _ _ end f (refused-here _ _ end (subst P same is)))))

  pub arguments-refuse : (end : SetupEnd) (args : Members) → args ≡ args_section top → top_keys_check top ≡ None → turns ≡ None → cycles ≡ None → delays_check (delay_items top) ≡ None
      → args_keys_check ports.args args ≡ None → IsRefusal (arguments_check args ports.args) end → IsRefusal (table_check ports top) end
  unfolding table_check
  arguments-refuse end args same a b d f h is =
      let P : Members → Type 0 = λ args. IsRefusal (arguments_check args ports.args) end in
      let Q : Members → Type 0 = λ args. args_keys_check ports.args args ≡ None in
      refused-later _ _ end a (refused-later _ _ end b (refused-later _ _ end d (refused-later _ _ end f (refused-later _ _ end (subst Q same h) (refused-here _ _ end (subst P same is))))))

  pub files-refuse : (end : SetupEnd) (args files : Members) → args ≡ args_section top → files ≡ dram_section top → top_keys_check top ≡ None → turns ≡ None → cycles ≡ None → delays_check (delay_items top) ≡ None
      → args_keys_check ports.args args ≡ None → arguments_check args ports.args ≡ None → IsRefusal (dram_keys_check ports.drams files) end → IsRefusal (table_check ports top) end
  unfolding table_check
  files-refuse end args files same there a b d f h k is =
      let P : Members → Type 0 = λ args. arguments_check args ports.args ≡ None in
      let Q : Members → Type 0 = λ args. args_keys_check ports.args args ≡ None in
      let R : Members → Type 0 = λ files. IsRefusal (dram_keys_check ports.drams files) end in
      refused-later _ _ end a (refused-later _ _ end b (refused-later _ _ end d (refused-later _ _ end f (refused-later _ _ end (subst Q same h) (refused-later _ _ end (subst P same k) (refused-here _ _ end (subst R there is)))))))

  pub all-pass : (args files : Members) → args ≡ args_section top → files ≡ dram_section top → top_keys_check top ≡ None → turns ≡ None → cycles ≡ None → delays_check (delay_items top) ≡ None
      → args_keys_check ports.args args ≡ None → arguments_check args ports.args ≡ None → dram_keys_check ports.drams files ≡ None → table_check ports top ≡ None
  unfolding table_check
  all-pass args files same there a b d f h k l =
      let P : Members → Type 0 = λ args. arguments_check args ports.args ≡ None in
      let Q : Members → Type 0 = λ args. args_keys_check ports.args args ≡ None in
      let R : Members → Type 0 = λ files. dram_keys_check ports.drams files ≡ None in
      passed-more _ _ a (passed-more _ _ b (passed-more _ _ d (passed-more _ _ f (passed-more _ _ (subst Q same h) (passed-more _ _ (subst P same k) (passed-more _ _ (subst R there l) passed-all))))))
