use Rattle.std.proofs.Common.{◌≡◌, [], ◌∷◌, slice_index, Some, subst}
use Rattle.sp_words.specs.Memory.{words}
use Rattle.sp_core.specs.Meaning.{first_store}
use Rattle.sp_port_nets.proofs.Standing.{stands}
use Rattle.sp_port_nets.proofs.laws.arguments_stand.Goals as goal

pub returns : goal.returns
returns c core input right each k m l at = subst (λ n. first_store core input n ≡ Some (words (slice_index input.args k ∷ []))) at (stands core right input each k l)
