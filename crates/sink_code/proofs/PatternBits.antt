-- The bits of the rows of patterns: of one node, and of the nodes as far as a loop has come.
use Rattle.std.proofs.Common.{◌≡◌, ℕ, ◌<◌, ◌≤◌, ◌↔◌, Bool, true, false, ◌||◌, nat_eq, nat_lt, if◌then◌else◌, List, [], ◌∷◌, ◌++◌, flat_map, length, get_or, map, replicate, subst, Option, None, Some, refl, sym, ap, ◌∙◌}
use Rattle.std.proofs.Math.Bool.{or-false, or-true, or_assoc}
use Rattle.std.proofs.Math.Path.{fun_ext}
use Rattle.std.proofs.lemmas.Cmp.{nat_eq_equiv}
use Rattle.std.proofs.lemmas.List.{get_or-replicate, length-replicate}
use Rattle.std.proofs.lemmas.Option.{same_Some}
use Rattle.std.specs.List.{list_any}
use Rattle.mir_base.specs.Expressions.{divides}
use Rattle.mir_base.specs.declared.instructions.Operand.{Operand}
use Rattle.mir_base.specs.BelowLaws.{all_below_append, all_below_left, all_below_right}
use Rattle.mir_base.specs.Frames.{shared_vars}
use Rattle.mir_base.specs.SharedLaws.{shared_below}
use Rattle.mir_base.specs.Shapes.{AllBelow, into_vars, operand_vars, rhs_vars, test_vars}
use Rattle.bit_rows.specs.BitLaws.{length_or, or_bit}
use Rattle.bit_rows.specs.Bits.{or_bits, row_of}
use Rattle.flow_graph.specs.declared.nodes.Node.{Node}
use Rattle.flow_graph.specs.declared.nodes.Node.TheVariants.{Start, Skip, Assign, Print, Guard, Call, Test, Return}
use Rattle.flow_graph.specs.Graphs.{GraphShape, assigns, node_vars}
use Rattle.flow_graph.specs.Numbering.{is_in}
use Rattle.key_rows.specs.KeyRowLaws.{row_at}
use Rattle.path_laws.specs.FalseRows.{false_bit}
use Rattle.key_rows.specs.KeyRows.{key_in}
use Rattle.path_laws.specs.Paths.{AreRows, has_bit}
use Rattle.sink_code.specs.declared.patterns.Pattern.{Pattern}
use Rattle.graph_edit.specs.Accesses.{blocks_pattern, is_occurrence}
use Rattle.sink_code.specs.PatternRows.{AreBlockedRows, blocked_row, row_joined, pattern_vars}
use Rattle.sink_code.specs.PatternTables.{sinkable_pattern, pattern_of}
use Rattle.graph_edit.specs.VarLaws.{any_common, assigned_is_in, is_in_append, shared_is_in, assigns_none}
use Rattle.graph_edit.specs.OccurrenceLaws.{is_occurrence_of, occurrence_is}
use Rattle.flow_graph.specs.NumberingLaws.{in_any}

-- ---- occurrences

-- a node is an occurrence of the pattern that occurs at it, and of no other
occurs_pattern : (p : Pattern) (node : Node) → (is_occurrence p.var p.rhs (Some node) ≡ true) ↔ (pattern_of node ≡ Some p)
occurs_pattern p (Start next) = (λ h. cc, λ h. cc)
occurs_pattern p (Skip next) = (λ h. cc, λ h. cc)
occurs_pattern p (Assign x rhs next) = (there, back)
  where
    there : is_occurrence p.var p.rhs (Some (Assign x rhs next)) ≡ true → sinkable_pattern x rhs ≡ Some p
    there h =
        let w = occurrence_is p.var p.rhs (Some (Assign x rhs next)) h in
        let same : Assign x rhs next ≡ Assign p.var p.rhs w.0 = same_Some (Assign x rhs next) (Assign p.var p.rhs w.0) w.1 in
        let var : x ≡ p.var = cc in
        let right : rhs ≡ p.rhs = cc in
        ap (λ y. sinkable_pattern y rhs) var ∙ ap (sinkable_pattern p.var) right ∙ ap (λ b. if b then None else Some (record { var = p.var; rhs = p.rhs })) w.2

    back : sinkable_pattern x rhs ≡ Some p → is_occurrence p.var p.rhs (Some (Assign x rhs next)) ≡ true
    back h = by (divides rhs) refl h
      where
        by : (b : Bool) → divides rhs ≡ b → (if b then None else Some (record { var = x; rhs = rhs })) ≡ Some p → is_occurrence p.var p.rhs (Some (Assign x rhs next)) ≡ true
        by true e h' = cc
        by false e h' =
            let same : record { var = x; rhs = rhs } ≡ p = same_Some (record { var = x; rhs = rhs }) p h' in
            ap (λ (q : Pattern). is_occurrence q.var q.rhs (Some (Assign x rhs next))) (sym same) ∙ is_occurrence_of x rhs next e
occurs_pattern p (Print a next) = (λ h. cc, λ h. cc)
occurs_pattern p (Guard test number next) = (λ h. cc, λ h. cc)
occurs_pattern p (Call into unit operands next) = (λ h. cc, λ h. cc)
occurs_pattern p (Test test taken other) = (λ h. cc, λ h. cc)
occurs_pattern p (Return a) = (λ h. cc, λ h. cc)

-- the same of a node that may be absent
pub occurs_at_node : (p : Pattern) (node : Option Node) → (is_occurrence p.var p.rhs node ≡ true) ↔ (key_in pattern_of node ≡ Some p)
occurs_at_node p None = (λ h. cc, λ h. cc)
occurs_at_node p (Some node) = occurs_pattern p node

-- ---- rows of what is blocked

-- one row for each node
abbrev pub blocked_rows_of : List (List Bool) → List (List Bool) → ℕ → ℕ → List Node → List (List Bool)
blocked_rows_of assigning naming bits shared nodes = map (blocked_row assigning naming bits shared) nodes

-- so the rows are those of what the nodes block
pub are_blocked_rows : (assigning naming : List (List Bool)) (bits shared : ℕ) (nodes : List Node) (rows : List (List Bool)) → rows ≡ blocked_rows_of assigning naming bits shared nodes → AreBlockedRows assigning naming bits shared nodes rows
are_blocked_rows assigning naming bits shared nodes rows is n node at = ap (λ r. row_of r n) is ∙ row_at (blocked_row assigning naming bits shared) nodes n node at

-- ---- the bits of a blocked row

module _ (rows : List (List Bool)) (bits : ℕ) (shape : AreRows (length rows) bits rows) where
  -- a row with others joined to it has as many bits
  pub joined_long : (xs : List ℕ) (row : List Bool) → AllBelow (length rows) xs → length row ≡ bits → length (row_joined rows xs row) ≡ bits
  joined_long [] row below long = long
  joined_long (x ∷ xs) row below long = joined_long xs (or_bits row (row_of rows x)) below.1 (length_or row (row_of rows x) (long ∙ sym (shape.each x below.0)) ∙ long)

  -- and each is set where one of theirs is
  pub joined_bit : (xs : List ℕ) (row : List Bool) (k : ℕ) → AllBelow (length rows) xs → length row ≡ bits → get_or (row_joined rows xs row) k false ≡ (get_or row k false || list_any (λ x. has_bit rows k x) xs)
  joined_bit [] row k below long = sym (or-false (get_or row k false))
  joined_bit (x ∷ xs) row k below long =
      joined_bit xs (or_bits row (row_of rows x)) k below.1 (length_or row (row_of rows x) (long ∙ sym (shape.each x below.0)) ∙ long)
      ∙ ap (λ b. b || list_any (λ y. has_bit rows k y) xs) (or_bit row (row_of rows x) k (long ∙ sym (shape.each x below.0)))
      ∙ or_assoc (get_or row k false) (has_bit rows k x) (list_any (λ y. has_bit rows k y) xs)

-- joined in two steps
pub joined_append : (rows : List (List Bool)) (xs ys : List ℕ) (row : List Bool) → row_joined rows (xs ++ ys) row ≡ row_joined rows ys (row_joined rows xs row)
joined_append rows [] ys row = refl
joined_append rows (x ∷ xs) ys row = joined_append rows xs ys (or_bits row (row_of rows x))

module _ (graph : GraphShape) (assigning naming : List (List Bool)) (bits vars : ℕ) (few : graph.shared ≤ vars) (assigning_shape : AreRows vars bits assigning) (naming_shape : AreRows vars bits naming) (k : ℕ) (p : Pattern)
    (assigning_bits : (x : ℕ) → x < vars → has_bit assigning k x ≡ is_in x (p.var ∷ [])) (naming_bits : (x : ℕ) → x < vars → has_bit naming k x ≡ is_in x (pattern_vars p)) where
  abbrev base : List Bool
  base = replicate bits false

  shape_of : (rows : List (List Bool)) → AreRows vars bits rows → AreRows (length rows) bits rows
  shape_of rows shape = subst (λ n. AreRows n bits rows) (sym shape.len) shape

  below_in : (rows : List (List Bool)) → AreRows vars bits rows → (xs : List ℕ) → AllBelow vars xs → AllBelow (length rows) xs
  below_in rows shape xs below = subst (λ n. AllBelow n xs) (sym shape.len) below

  -- some read variable is that of the pattern
  any_read : (xs : List ℕ) → AllBelow vars xs → list_any (λ x. has_bit assigning k x) xs ≡ is_in p.var xs
  any_read [] below = refl
  any_read (x ∷ xs) below =
      ap (λ b. b || list_any (λ y. has_bit assigning k y) xs) (assigning_bits x below.0 ∙ or-false (nat_eq p.var x) ∙ nat_eq_equiv.symm p.var x)
      ∙ ap (λ b. nat_eq x p.var || b) (any_read xs below.1)

  read_bit : (xs : List ℕ) → AllBelow vars xs → get_or (row_joined assigning xs base) k false ≡ is_in p.var xs
  read_bit xs below =
      joined_bit assigning bits (shape_of assigning assigning_shape) xs base k (below_in assigning assigning_shape xs below) (length-replicate bits false)
      ∙ ap (λ b. b || list_any (λ x. has_bit assigning k x) xs) (false_bit bits k)
      ∙ any_read xs below

  -- with an assigned variable besides
  set_bit : (xs : List ℕ) (z : ℕ) → AllBelow vars xs → z < vars → get_or (row_joined naming (z ∷ []) (row_joined assigning xs base)) k false ≡ (is_in p.var xs || (nat_eq p.var z || list_any (λ y. nat_eq y z) (rhs_vars p.rhs)))
  set_bit xs z below z_in =
      joined_bit naming bits (shape_of naming naming_shape) (z ∷ []) (row_joined assigning xs base) k (below_in naming naming_shape (z ∷ []) (z_in, tt)) (joined_long assigning bits (shape_of assigning assigning_shape) xs base (below_in assigning assigning_shape xs below) (length-replicate bits false))
      ∙ ap (λ b. b || (has_bit naming k z || false)) (read_bit xs below)
      ∙ ap (λ b. is_in p.var xs || b) (or-false (has_bit naming k z) ∙ naming_bits z z_in ∙ ap (λ b. nat_eq p.var z || b) (in_any z (rhs_vars p.rhs)))

  -- with the variables that a call assigns
  called_bit : (xs zs : List ℕ) → AllBelow vars xs → AllBelow vars zs → get_or (row_joined naming zs (row_joined assigning xs base)) k false ≡ (is_in p.var xs || list_any (λ y. is_in y zs) (pattern_vars p))
  called_bit xs zs below zs_in =
      joined_bit naming bits (shape_of naming naming_shape) zs (row_joined assigning xs base) k (below_in naming naming_shape zs zs_in) (joined_long assigning bits (shape_of assigning assigning_shape) xs base (below_in assigning assigning_shape xs below) (length-replicate bits false))
      ∙ ap (λ b. b || list_any (λ x. has_bit naming k x) zs) (read_bit xs below)
      ∙ ap (λ b. is_in p.var xs || b) (any_named zs zs_in ∙ any_common zs (pattern_vars p))
    where
      any_named : (ys : List ℕ) → AllBelow vars ys → list_any (λ x. has_bit naming k x) ys ≡ list_any (λ x. is_in x (pattern_vars p)) ys
      any_named [] within = refl
      any_named (y ∷ ys) within = ap (λ b. b || list_any (λ x. has_bit naming k x) ys) (naming_bits y within.0) ∙ ap (λ b. is_in y (pattern_vars p) || b) (any_named ys within.1)

  -- a global that is read is assigned too
  read_too : (a b e c : Bool) → (b || ((a || e) || c)) ≡ ((a || b) || ((a || e) || c))
  read_too true b e c = or-true b
  read_too false b e c = refl

  -- the pattern's bit of a call
  call_bit : (into : Option ℕ) (unit : ℕ) (operands : List Operand) (next : ℕ) → AllBelow vars (into_vars into ++ flat_map operand_vars operands) → get_or (blocked_row assigning naming bits graph.shared (Call into unit operands next)) k false ≡ blocks_pattern graph p.var p.rhs (Some (Call into unit operands next))
  call_bit into unit operands next below =
      let read = flat_map operand_vars operands in
      let globals = shared_vars graph.shared in
      let assigned = λ (y : ℕ). assigns graph y (Call into unit operands next) in
      called_bit read (globals ++ into_vars into) (all_below_right vars (into_vars into) read below)
      (all_below_append vars globals (into_vars into) (shared_below vars graph.shared few) (all_below_left vars (into_vars into) read below))
      ∙ ap (λ f. is_in p.var read || list_any f (pattern_vars p)) (fun_ext (λ y. assigned_is_in graph (Call into unit operands next) y))
      ∙ split into
      ∙ ap (λ b. b || (assigned p.var || list_any assigned (rhs_vars p.rhs))) (ap (λ b. b || is_in p.var read) (sym (shared_is_in graph.shared p.var)) ∙ sym (is_in_append p.var globals read))
    where
      split : (o : Option ℕ) → (is_in p.var (flat_map operand_vars operands) || (assigns graph p.var (Call o unit operands next) || list_any (λ y. assigns graph y (Call o unit operands next)) (rhs_vars p.rhs)))
          ≡ ((nat_lt p.var graph.shared || is_in p.var (flat_map operand_vars operands)) || (assigns graph p.var (Call o unit operands next) || list_any (λ y. assigns graph y (Call o unit operands next)) (rhs_vars p.rhs)))
      split None =
          let here = nat_lt p.var graph.shared in
          let rest = list_any (λ y. assigns graph y (Call None unit operands next)) (rhs_vars p.rhs) in
          let read = is_in p.var (flat_map operand_vars operands) in
          ap (λ b. read || (b || rest)) (sym (or-false here)) ∙ read_too here read false rest ∙ ap (λ b. (here || read) || (b || rest)) (or-false here)
      split (Some x) = read_too (nat_lt p.var graph.shared) (is_in p.var (flat_map operand_vars operands)) (nat_eq p.var x) (list_any (λ y. assigns graph y (Call (Some x) unit operands next)) (rhs_vars p.rhs))

  -- where nothing is assigned
  unset : (b : Bool) → b ≡ (b || (false || list_any (λ y. false) (rhs_vars p.rhs)))
  unset b = sym (or-false b) ∙ ap (λ c. b || c) (sym (assigns_none (rhs_vars p.rhs)))

  -- the bit of a pattern in the row of what a node blocks
  pub blocked_bit : (node : Node) → k < bits → AllBelow vars (node_vars node) → get_or (blocked_row assigning naming bits graph.shared node) k false ≡ blocks_pattern graph p.var p.rhs (Some node)
  blocked_bit (Start next) k_in below = get_or-replicate bits k true false k_in
  blocked_bit (Skip next) k_in below = false_bit bits k ∙ unset false
  blocked_bit (Assign x rhs next) k_in below = set_bit (rhs_vars rhs) x below.1 below.0
  blocked_bit (Print a next) k_in below = read_bit (operand_vars a) below ∙ unset (is_in p.var (operand_vars a))
  blocked_bit (Guard test number next) k_in below = read_bit (test_vars test) below ∙ unset (is_in p.var (test_vars test))
  blocked_bit (Call into unit operands next) k_in below = call_bit into unit operands next below
  blocked_bit (Test test taken other) k_in below = read_bit (test_vars test) below ∙ unset (is_in p.var (test_vars test))
  blocked_bit (Return a) k_in below = read_bit (shared_vars graph.shared ++ operand_vars a) (all_below_append vars (shared_vars graph.shared) (operand_vars a) (shared_below vars graph.shared few) below) ∙ unset (is_in p.var (shared_vars graph.shared ++ operand_vars a))
