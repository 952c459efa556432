-- Each part is shown in turn; names are told apart by a number.
use Rattle.std.proofs.Common.{refl, lit<, lit≤, inr}
use Rattle.std.specs.Prelude.{[], ◌∷◌, codes}
use Rattle.sp_tree.specs.ExampleForms.{named}
use Rattle.sp_tree.specs.ExampleLoops.{counting_down}
use Rattle.sp_tree.specs.ExampleTransfers.{dot_product}
use Rattle.sp_words.specs.Interface.{IsCount}
use Rattle.sp_words.specs.Names.{IsName}
use Rattle.sp_tree.specs.Declarations.{IsDeclaration}
use Rattle.sp_tree.proofs.Witnesses.{all_of, not_among, a_name, int_is_number}
use Rattle.sp_tree.proofs.examples.worked_programs_are_typed.Goals as goal

pub returns-clause-dot_product : goal.returns-clause-dot_product
unfolding dot_product
returns-clause-dot_product c = record {
  declarations = (all_of IsDeclaration ((named dot_product (codes "a" ∷ codes "b" ∷ codes "y" ∷ codes "acc" ∷ codes "ta" ∷ codes "tb" ∷ codes "part" ∷ []) [] (codes "t" ∷ codes "i" ∷ [])).mems) ((record { name = a_name (codes "a") refl refl; rank = (lit≤ tt, lit≤ tt); dims = (all_of IsCount (64 ∷ []) ((lit≤ tt, lit< tt), tt)); start = refl }), ((record { name = a_name (codes "b") refl refl; rank = (lit≤ tt, lit≤ tt); dims = (all_of IsCount (64 ∷ []) ((lit≤ tt, lit< tt), tt)); start = refl }), ((record { name = a_name (codes "y") refl refl; rank = refl; dims = (all_of IsCount ([]) tt); start = refl }), ((record { name = a_name (codes "acc") refl refl; rank = refl; dims = (all_of IsCount ([]) tt); start = lit< tt }), ((record { name = a_name (codes "ta") refl refl; rank = (lit≤ tt, lit≤ tt); dims = (all_of IsCount (16 ∷ []) ((lit≤ tt, lit< tt), tt)); start = refl }), ((record { name = a_name (codes "tb") refl refl; rank = (lit≤ tt, lit≤ tt); dims = (all_of IsCount (16 ∷ []) ((lit≤ tt, lit< tt), tt)); start = refl }), ((record { name = a_name (codes "part") refl refl; rank = refl; dims = (all_of IsCount ([]) tt); start = lit< tt }), tt))))))));
  val_names = (all_of IsName ((named dot_product (codes "a" ∷ codes "b" ∷ codes "y" ∷ codes "acc" ∷ codes "ta" ∷ codes "tb" ∷ codes "part" ∷ []) [] (codes "t" ∷ codes "i" ∷ [])).vals) tt);
  counter_names = (all_of IsName ((named dot_product (codes "a" ∷ codes "b" ∷ codes "y" ∷ codes "acc" ∷ codes "ta" ∷ codes "tb" ∷ codes "part" ∷ []) [] (codes "t" ∷ codes "i" ∷ [])).counters) ((a_name (codes "t") refl refl), ((a_name (codes "i") refl refl), tt)));
  mem_numbers = refl;
  val_numbers = refl;
  counter_numbers = refl;
  ports = refl;
  port_names = ((not_among [] (codes "a") refl), ((not_among (codes "a" ∷ []) (codes "b") refl), ((not_among (codes "b" ∷ codes "a" ∷ []) (codes "y") refl), tt)));
  typed = ((not_among (codes "a" ∷ codes "b" ∷ codes "y" ∷ []) (codes "acc") refl), ((tt, (record { one_to_four = (lit≤ tt, lit≤ tt); bounds = ((((lit< tt), refl), tt), (((lit< tt), refl), tt), (lit≤ tt, lit< tt), (lit≤ tt, lit< tt), tt); lanes = tt; binders = ((not_among (codes "acc" ∷ codes "a" ∷ codes "b" ∷ codes "y" ∷ []) (codes "t") refl), tt) }), ((not_among (codes "acc" ∷ codes "a" ∷ codes "b" ∷ codes "y" ∷ codes "t" ∷ []) (codes "ta") refl), ((not_among (codes "ta" ∷ codes "acc" ∷ codes "a" ∷ codes "b" ∷ codes "y" ∷ codes "t" ∷ []) (codes "tb") refl), (((record { seen = (1, lit< tt, refl); is_kind = refl; is_type = refl }), (record { from_dram = (record { seen = (3, lit< tt, refl); is_kind = refl; is_type = refl }); spans_typed = (((((0, lit< tt, refl), refl), refl), tt), (((((0, lit< tt, refl), refl), (lit< tt), refl, (refl, int_is_number)), refl), (tt, tt)), (lit≤ tt, lit< tt), tt); span_for_each = refl }), refl, (inr refl, tt)), (((record { seen = (0, lit< tt, refl); is_kind = refl; is_type = refl }), (record { from_dram = (record { seen = (4, lit< tt, refl); is_kind = refl; is_type = refl }); spans_typed = (((((0, lit< tt, refl), refl), refl), tt), (((((0, lit< tt, refl), refl), (lit< tt), refl, (refl, int_is_number)), refl), (tt, tt)), (lit≤ tt, lit< tt), tt); span_for_each = refl }), refl, (inr refl, tt)), ((not_among (codes "tb" ∷ codes "ta" ∷ codes "acc" ∷ codes "a" ∷ codes "b" ∷ codes "y" ∷ codes "t" ∷ []) (codes "part") refl), ((tt, (record { one_to_four = (lit≤ tt, lit≤ tt); bounds = ((((lit< tt), refl), tt), (((lit< tt), refl), tt), (lit≤ tt, lit< tt), (lit≤ tt, lit< tt), tt); lanes = tt; binders = ((not_among (codes "part" ∷ codes "tb" ∷ codes "ta" ∷ codes "acc" ∷ codes "a" ∷ codes "b" ∷ codes "y" ∷ codes "t" ∷ []) (codes "i") refl), tt) }), tt, (record { seen = (0, lit< tt, refl); is_kind = refl; is_type = refl }), int_is_number, (((record { seen = (2, lit< tt, refl); is_kind = refl; is_type = refl }), refl, (((0, lit< tt, refl), refl), refl, tt)), ((record { seen = (1, lit< tt, refl); is_kind = refl; is_type = refl }), refl, (((0, lit< tt, refl), refl), refl, tt)), refl, (refl, int_is_number)), tt, ((refl, (tt, tt)), (refl, (tt, tt)))), tt)))))), (record { seen = (0, lit< tt, refl); is_kind = refl; is_type = refl }), int_is_number, (record { seen = (0, lit< tt, refl); is_kind = refl; is_type = refl }), (refl, (refl, ((refl, refl, (tt, (tt, tt), tt)), ((refl, refl, (tt, (tt, tt), tt)), (refl, ((refl, (tt, tt, tt), tt, ((refl, (tt, tt)), (refl, (tt, tt)))), tt)))))), refl), (((record { seen = (3, lit< tt, refl); is_kind = refl; is_type = refl }), (record { seen = (0, lit< tt, refl); is_kind = refl; is_type = refl })), tt)));
  nested = lit≤ tt;
  limits = record { nodes = lit≤ tt; lanes = lit≤ tt; in_one_run = lit≤ tt; operations = lit≤ tt; words = lit≤ tt; copies = lit≤ tt; dram = lit≤ tt };
}

pub returns-clause-counting_down : goal.returns-clause-counting_down
unfolding counting_down
returns-clause-counting_down c = record {
  declarations = (all_of IsDeclaration ((named counting_down (codes "x" ∷ codes "y" ∷ codes "n" ∷ []) (codes "s" ∷ codes "s" ∷ codes "s" ∷ []) []).mems) ((record { name = a_name (codes "x") refl refl; rank = refl; dims = (all_of IsCount ([]) tt); start = refl }), ((record { name = a_name (codes "y") refl refl; rank = refl; dims = (all_of IsCount ([]) tt); start = refl }), ((record { name = a_name (codes "n") refl refl; rank = refl; dims = (all_of IsCount ([]) tt); start = lit< tt }), tt))));
  val_names = (all_of IsName ((named counting_down (codes "x" ∷ codes "y" ∷ codes "n" ∷ []) (codes "s" ∷ codes "s" ∷ codes "s" ∷ []) []).vals) ((a_name (codes "s") refl refl), ((a_name (codes "s") refl refl), ((a_name (codes "s") refl refl), tt))));
  counter_names = (all_of IsName ((named counting_down (codes "x" ∷ codes "y" ∷ codes "n" ∷ []) (codes "s" ∷ codes "s" ∷ codes "s" ∷ []) []).counters) tt);
  mem_numbers = refl;
  val_numbers = refl;
  counter_numbers = refl;
  ports = refl;
  port_names = ((not_among [] (codes "x") refl), ((not_among (codes "x" ∷ []) (codes "y") refl), tt));
  typed = ((not_among (codes "x" ∷ codes "y" ∷ []) (codes "n") refl), (((((record { seen = (1, lit< tt, refl); is_kind = refl; is_type = refl }), refl), refl), (not_among (codes "n" ∷ codes "x" ∷ codes "y" ∷ []) (codes "s") refl), ((((0, lit< tt, refl), (lit< tt), refl, (int_is_number, refl)), refl), (tt, tt)), (not_among (codes "n" ∷ codes "x" ∷ codes "y" ∷ []) (codes "s") refl), (((record { seen = (0, lit< tt, refl); is_kind = refl; is_type = refl }), ((record { seen = (0, lit< tt, refl); is_kind = refl; is_type = refl }), (0, lit< tt, refl), refl, (refl, int_is_number))), tt), (not_among (codes "n" ∷ codes "x" ∷ codes "y" ∷ []) (codes "s") refl), ((((0, lit< tt, refl), (lit< tt), refl, (refl, int_is_number)), refl), (tt, tt))), (((record { seen = (2, lit< tt, refl); is_kind = refl; is_type = refl }), (record { seen = (0, lit< tt, refl); is_kind = refl; is_type = refl })), tt)));
  nested = lit≤ tt;
  limits = record { nodes = lit≤ tt; lanes = lit≤ tt; in_one_run = lit≤ tt; operations = lit≤ tt; words = lit≤ tt; copies = lit≤ tt; dram = lit≤ tt };
}
