-- Lists that stand, one behind the other, and in a draft that has grown.
use Rattle.std.proofs.Common.{List, [], ◌∷◌, ◌++◌}
use Rattle.sp_netlist.specs.Draft.{Draft}
use Rattle.sp_gates.specs.Grows.{Grows}
use Rattle.sp_gates.proofs.Growing.{Grows-join}
use Rattle.sp_core.specs.PlainCore.{PlainCore}
use Rattle.sp_op_nets.specs.declared.acted.ActedList.{ActedList}
use Rattle.sp_tree_handed.specs.Lists.{NumberedOps}
use Rattle.sp_tree_handed.specs.Standing.{IsListStanding, AreListsStanding}

pub list_later : (a b : Draft) (core : PlainCore) (list : NumberedOps) (x : ActedList) → Grows a b → IsListStanding a core list x → IsListStanding b core list x
list_later a b core list x g h = record { draft = h.draft; grows = Grows-join h.draft a b h.grows g; first = h.first; ops_of = h.ops_of; answers = h.answers; after = h.after; issue = h.issue; acts = h.acts }

pub lists_later : (a b : Draft) (core : PlainCore) (lists : List NumberedOps) (acted : List ActedList) → Grows a b → AreListsStanding a core lists acted → AreListsStanding b core lists acted
lists_later a b core [] [] g h = tt
lists_later a b core (list ∷ lists) (x ∷ acted) g h = (list_later a b core list x g h.0, lists_later a b core lists acted g h.1)
lists_later a b core [] (x ∷ acted) g h = absurd h
lists_later a b core (list ∷ lists) [] g h = absurd h

pub lists_join : (d : Draft) (core : PlainCore) (lists more : List NumberedOps) (xs ys : List ActedList) → AreListsStanding d core lists xs → AreListsStanding d core more ys → AreListsStanding d core (lists ++ more) (xs ++ ys)
lists_join d core [] more [] ys h rest = rest
lists_join d core (list ∷ lists) more (x ∷ xs) ys h rest = (h.0, lists_join d core lists more xs ys h.1 rest)
lists_join d core [] more (x ∷ xs) ys h rest = absurd h
lists_join d core (list ∷ lists) more [] ys h rest = absurd h
