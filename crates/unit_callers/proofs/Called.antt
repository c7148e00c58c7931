-- Lists of callers, as they grow: one node more, and one unit more.
use Rattle.std.proofs.Common.{◌≡◌, ℕ, ◌+◌, ◌<◌, Bool, true, false, ◌||◌, nat_eq, inl, inr, List, [], ◌∷◌, ◌++◌, length, replicate, slice_get, slice_set, Option, Some, refl, sym, ap, ◌∙◌, arith, eq-eqb}
use Rattle.std.proofs.lemmas.Bool.{cases_eq}
use Rattle.std.proofs.lemmas.List.{get_or-set_other, get_or-set_same, length-replicate, length-set}
use Rattle.std.proofs.lemmas.Option.{slice_get_within}
use Rattle.mir_base.specs.declared.instructions.Operand.{Operand}
use Rattle.node_list.specs.Lists.{list_at}
use Rattle.flow_graph.specs.declared.nodes.Node.{Node}
use Rattle.flow_graph.specs.declared.nodes.Node.TheVariants.{Call}
use Rattle.flow_graph.specs.Graphs.{GraphShape}
use Rattle.flow_graph.specs.Numbering.{is_in}
use Rattle.unit_callers.specs.Calling.{AreCallersBelow, Notes, NotesCall, NotesCalls}

-- a list with one more at its end has what it had
pub in_more : (xs : List ℕ) (x y : ℕ) → is_in x xs ≡ true → is_in x (xs ++ y ∷ []) ≡ true
in_more (z ∷ xs) x y e = by (nat_eq z x) (in_more xs x y) e
  where
    by : (b : Bool) → (is_in x xs ≡ true → is_in x (xs ++ y ∷ []) ≡ true) → (b || is_in x xs) ≡ true → (b || is_in x (xs ++ y ∷ [])) ≡ true
    by true rest h = refl
    by false rest h = rest h
in_more [] x y e = cc

-- and that one
pub in_last : (xs : List ℕ) (y : ℕ) → is_in y (xs ++ y ∷ []) ≡ true
in_last [] y = ap (λ b. b || false) (eq-eqb y y refl)
in_last (z ∷ xs) y = by (nat_eq z y) (in_last xs y)
  where
    by : (b : Bool) → is_in y (xs ++ y ∷ []) ≡ true → (b || is_in y (xs ++ y ∷ [])) ≡ true
    by true rest = refl
    by false rest = rest

-- what is noted at its end
pub notes_push : (unit : ℕ) (old new : List ℕ) → new ≡ old ++ unit ∷ [] → Notes unit old new
notes_push unit old new is = record { keeps = λ x h. ap (is_in x) is ∙ in_more old x unit h; noted = ap (is_in unit) is ∙ in_last old unit }

-- ---- one node

-- one that calls
pub notes_call : (into : Option ℕ) (v : ℕ) (operands : List Operand) (next unit : ℕ) (rows : List (List ℕ)) (row : List ℕ) → v < length rows → Notes unit (list_at rows v) row → NotesCall (Call into v operands next) unit rows (slice_set rows v row)
notes_call into v operands next unit rows row lt notes = record {
  long = length-set rows v row;
  keeps = λ u x h. elim (cases_eq u v) [
    | inl e ↦ ap (is_in x) (at u e) ∙ notes.keeps x (ap (λ k. is_in x (list_at rows k)) (sym e) ∙ h)
    | inr ne ↦ ap (is_in x) (get_or-set_other rows v u row [] ne) ∙ h
  ];
  noted = λ i u o n e. let same : v ≡ u = cc e in ap (is_in unit) (at u (sym same)) ∙ notes.noted;
}
  where
    at : (u : ℕ) → u ≡ v → list_at (slice_set rows v row) u ≡ row
    at u e = ap (list_at (slice_set rows v row)) e ∙ get_or-set_same rows v row [] lt

-- ---- the nodes of a graph

-- before the first node
pub calls_none : (graph : GraphShape) (unit : ℕ) (rows : List (List ℕ)) → NotesCalls graph 0 unit rows rows
calls_none graph unit rows = record { long = refl; keeps = λ v x h. h; noted = λ n into v operands next lt. absurd (omega (arith, lt)) }

-- one node more
pub calls_more : (graph : GraphShape) (n unit : ℕ) (node : Node) (old now new : List (List ℕ)) → slice_get graph.nodes n ≡ Some node → NotesCalls graph n unit old now → NotesCall node unit now new → NotesCalls graph (n + 1) unit old new
calls_more graph n unit node old now new here so_far one = record {
  long = one.long ∙ so_far.long;
  keeps = λ v x h. one.keeps v x (so_far.keeps v x h);
  noted = λ m into v operands next lt at. elim (cases_eq m n) [
    | inl e ↦
        let both : Some node ≡ Some (Call into v operands next) = sym here ∙ ap (slice_get graph.nodes) (sym e) ∙ at in
        let same : node ≡ Call into v operands next = cc in
        one.noted into v operands next same
    | inr ne ↦ one.keeps v unit (so_far.noted m into v operands next (omega (arith, lt, ne)) at)
  ];
}

-- ---- units

-- before the first unit
pub callers_none : (graphs : List GraphShape) (rows : List (List ℕ)) → rows ≡ replicate (length graphs) [] → AreCallersBelow graphs 0 rows
callers_none graphs rows is = record { long = ap (λ (l : List (List ℕ)). length l) is ∙ length-replicate {A = List ℕ} (length graphs) []; calls = λ w graph n into v operands next lt. absurd (omega (arith, lt)) }

-- one unit more
pub callers_more : (graphs : List GraphShape) (count : ℕ) (graph : GraphShape) (now new : List (List ℕ)) → slice_get graphs count ≡ Some graph → AreCallersBelow graphs count now → NotesCalls graph (length graph.nodes) count now new → AreCallersBelow graphs (count + 1) new
callers_more graphs count graph now new at so_far one = record {
  long = one.long ∙ so_far.long;
  calls = λ w g n into v operands next lt at_w here. elim (cases_eq w count) [
    | inl e ↦
        let both : Some graph ≡ Some g = sym at ∙ ap (slice_get graphs) (sym e) ∙ at_w in
        let same : graph ≡ g = cc in
        let mine : slice_get graph.nodes n ≡ Some (Call into v operands next) = ap (λ (h : GraphShape). slice_get h.nodes n) same ∙ here in
        ap (λ k. is_in k (list_at new v)) e ∙ one.noted n into v operands next (slice_get_within graph.nodes n (Call into v operands next) mine) mine
    | inr ne ↦ one.keeps v w (so_far.calls w g n into v operands next (omega (arith, lt, ne)) at_w here)
  ];
}
