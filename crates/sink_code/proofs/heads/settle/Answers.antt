use Rattle.std.proofs.Common.{◌≡◌, ℕ, ◌++◌, ◌∷◌, [], ◌∙◌, Some, List, get_or, inl, inr, length, refl, slice_get, ap, sym, subst, arith}
use Rattle.std.proofs.lemmas.Option.{same_Some, slice_get-get_or}
use Rattle.mir_base.specs.Shapes.{AllBelow, rhs_vars}
use Rattle.sink_code.specs.declared.inserting.PutBefore.{PutBefore}
use Rattle.sink_code.specs.Inside.{stop_from}
use Rattle.sink_code.specs.BlockPlaces.{stop_by}
use Rattle.sink_code.proofs.Noted.{stop_first}
use Rattle.sink_code.proofs.heads.settle.Goals as goal
use Rattle.sink_code.proofs.heads.settle.Goals.{After-stop_of-stop}

pub stop_of-stop-requires-clause-var : goal.stop_of-stop-requires-clause-var
stop_of-stop-requires-clause-var c =
    let is = c.requires.over.sinkable c.args.number c.get-pattern.result.now c.get-pattern.ensures in
    let var = is.1.0 in let long = c.requires.block.taken.access_long in omega (arith, var, long)

pub stop_of-stop-requires-clause-rhs : goal.stop_of-stop-requires-clause-rhs
stop_of-stop-requires-clause-rhs c =
    let is = c.requires.over.sinkable c.args.number c.get-pattern.result.now c.get-pattern.ensures in
    subst (λ n. AllBelow n (rhs_vars c.get-pattern.result.now.rhs)) (sym c.requires.block.taken.assign_long) is.1.1

-- the list of the block
same_list : (c : After-stop_of-stop) → c.requires.block.list ≡ c.nodes-list.result.now
same_list c = same_Some c.requires.block.list c.nodes-list.result.now (sym c.requires.block.is_block ∙ c.nodes-list.ensures)

-- the first node that stops the pattern
stop_at : (c : After-stop_of-stop) → c.stop_of-stop.result ≡ stop_from c.args.over.now.graph.now c.requires.block.list 0 c.get-pattern.result.now
stop_at c =
    let over = c.args.over.now in
    let p = c.get-pattern.result.now in
    let is = c.requires.over.sinkable c.args.number p c.get-pattern.ensures in
    c.stop_of-stop.ensures ∙ ap (λ (l : List ℕ). stop_by c.args.places.now c.args.block (length l) p) (sym (same_list c)) ∙ stop_first over.graph.now c.args.block 0 c.requires.block.list c.args.places.now p c.requires.block.taken is.1.0 is.1.1

pub returns-in_ok-push : goal.returns-in_ok-push
returns-in_ok-push c =
    let known = (goal.at.returns-in_ok-push c).After-stop_of-stop in
    let list = c.nodes-list.result.now in
    let n = get_or list c.stop_of-stop.result 0 in
    let here : slice_get c.nodes-list.result.now c.stop_of-stop.result ≡ Some n = slice_get-get_or list c.stop_of-stop.result 0 c.if-stop-list.true in
    record {
      list = c.requires.block.list;
      p = c.get-pattern.result.now;
      is_block = c.requires.block.is_block;
      numbered = c.get-pattern.ensures;
      either = inl (
        n,
        ap (λ l. slice_get l (stop_from c.args.over.now.graph.now c.requires.block.list 0 c.get-pattern.result.now)) (same_list known) ∙ ap (slice_get list) (sym (stop_at known)) ∙ here,
        refl,
        c.in_ok-push.ensures.items ∙ ap (λ (put : PutBefore). c.args.puts.now.items ++ put ∷ []) c.put_of.ensures,
      );
    }

pub returns-else-stop-list : goal.returns-else-stop-list
returns-else-stop-list c =
    let known = (goal.at.returns-else-stop-list c).After-stop_of-stop in
    record {
      list = c.requires.block.list;
      p = c.get-pattern.result.now;
      is_block = c.requires.block.is_block;
      numbered = c.get-pattern.ensures;
      either = inr ((let at = stop_at known in let long = ap length (same_list known) in omega (arith, at, long, c.if-stop-list.false)), c.set.ensures, refl);
    }
