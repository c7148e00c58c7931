-- A placement is a rewriting of its graph that can be made, with the temporaries as further variables.
use Rattle.std.proofs.Common.{◌≡◌, ℕ, suc, ◌+◌, ◌<◌, List, [], ◌∷◌, ◌++◌, length, slice_get, Some, refl, sym, ap, subst, arith, length-append}
use Rattle.mir_base.specs.declared.instructions.Expr.{Expr}
use Rattle.mir_base.specs.Shapes.{AllBelow, rhs_vars}
use Rattle.mir_base.specs.BelowLaws.{all_below_more}
use Rattle.mir_base.specs.ExpressionVars.{rhs_of, rhs_of_vars}
use Rattle.flow_graph.specs.Graphs.{GraphShape}
use Rattle.graph_edit.specs.Insertions.{InsertionsBelow, ChangeBelow, CanRewrite}
use Rattle.fresh_names.specs.FreshNames.{AreTemporaryNames}
use Rattle.fresh_names.specs.FreshNameLaws.{names_differ}
use Rattle.motion_rewrite.specs.declared.placement.Placement.{Placement}
use Rattle.motion_rewrite.specs.Flatten.{inserted, insertions_of, reading}
use Rattle.motion_rewrite.specs.Temporaries.{temporary, temporaries_before}
use Rattle.motion_rewrite.proofs.Rewritable.{IsRewritable, known, replaced_inserted, rewriting_by, start_free, temporary_within}
use Rattle.motion_rewrite.proofs.Rewriting.{one_more}
use Rattle.motion_rewrite.proofs.RowNumbers.{AllKnown, inserted_bit}

module _ {graph : GraphShape} {table : List Expr} {p : Placement} (r : IsRewritable graph table p) (names : List (List ℕ)) (are : AreTemporaryNames graph.vars (temporaries_before p.insert (length table)) names) where
  -- how many variables there are then
  abbrev all : ℕ
  all = length (graph.vars ++ names)

  abbrev temp : ℕ → ℕ
  temp = temporary (length graph.vars) p.insert

  all_vars : all ≡ length graph.vars + temporaries_before p.insert (length table)
  all_vars = omega (arith, length-append graph.vars names, are.long)

  -- what is put, and what is read, is below that
  puts_below : (numbers : List ℕ) → AllKnown table numbers → ((j i : ℕ) → slice_get numbers j ≡ Some i → temp i < all) → InsertionsBelow all (insertions_of temp table numbers)
  puts_below [] known within = tt
  puts_below (i ∷ numbers) known within =
      let e = known.0.0 in
      let value = all_below_more (length graph.vars) all (rhs_vars (rhs_of e)) (omega (arith, all_vars)) (subst (AllBelow (length graph.vars)) (sym (rhs_of_vars e)) (r.over i e known.0.1)) in
      subst (InsertionsBelow all) (sym (one_more temp table i e numbers known.0.1)) ((within 0 i refl, value), puts_below numbers known.1 (λ j. within (suc j)))

  read_below : (numbers : List ℕ) → ((j i : ℕ) → slice_get numbers j ≡ Some i → temp i < all) → ChangeBelow all (reading temp numbers)
  read_below [] within = tt
  read_below (i ∷ numbers) within = (within 0 i refl, tt)

  -- the rewriting can be made
  pub placement_fits : CanRewrite (rewriting_by graph table p) names graph
  placement_fits = record {
    at_start = ap (insertions_of temp table) (start_free r);
    put = λ n lt. puts_below (inserted p.insert n) (known r n) (λ j i at. (let within = temporary_within r n i (inserted_bit p.insert n j i at) in omega (arith, within, all_vars)));
    change = λ n lt. read_below (inserted p.replace n) (λ j i at. (let s = replaced_inserted r n i (inserted_bit p.replace n j i at) in let within = temporary_within r s.0 i s.1 in omega (arith, within, all_vars)));
    names = names_differ graph.vars names (temporaries_before p.insert (length table)) are r.is_graph.can.names;
  }
