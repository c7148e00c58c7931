-- Marks of what one node reads and assigns, in rows.
use Rattle.std.proofs.Common.{◌≡◌, ◌≢◌, ℕ, zero, suc, ◌+◌, ◌<◌, ◌||◌, ◌&&◌, not, if◌then◌else◌, Bool, true, false, nat_eq, List, [], ◌∷◌, ◌++◌, length, get_or, replicate, set, inl, inr, refl, sym, ap, ◌∙◌, subst, get_or-set_same, get_or-set_other}
use Rattle.std.proofs.Math.Bool.{and-false}
use Rattle.std.proofs.lemmas.Bool.{cases_eq, eq-eqb, ne_eqb}
use Rattle.std.proofs.lemmas.List.{get_or-replicate, length-replicate, length-set}
use Rattle.mir_base.specs.Frames.{shared_vars}
use Rattle.bit_rows.specs.Bits.{row_of}
use Rattle.flow_graph.specs.declared.nodes.Node.{Node}
use Rattle.flow_graph.specs.declared.nodes.Node.TheVariants.{Start, Skip, Assign, Print, Guard, Call, Test, Return}
use Rattle.flow_graph.specs.Graphs.{GraphShape, node_reads}
use Rattle.flow_graph.specs.Numbering.{is_in}
use Rattle.path_laws.specs.FalseRows.{false_bit}
use Rattle.path_laws.specs.Paths.{AreRows, has_bit}
use Rattle.dead_code.specs.Dead.{PassesBack}
use Rattle.dead_code.specs.LiveRows.{IsMarkedAt}
use Rattle.graph_edit.specs.Accesses.{assigned_vars}
use Rattle.graph_edit.specs.NodeKinds.{touches_none}
use Rattle.graph_edit.specs.VarLaws.{is_in_append, shared_more}

-- ---- truth values

-- two writes of one value to a bit, each under a condition, are one write where either condition holds
write_twice : (value old here one two : Bool) → (if here && two then value else (if here && one then value else old)) ≡ (if here && (one || two) then value else old)
write_twice value old true true true = refl
write_twice value old true true false = refl
write_twice value old true false two = refl
write_twice value old false one two = refl

-- a bit that is set where it is asked
set_is_or : (old asked : Bool) → (if asked then true else old) ≡ (old || asked)
set_is_or true true = refl
set_is_or true false = refl
set_is_or false true = refl
set_is_or false false = refl

-- ---- marks of one node

module _ (value : Bool) (n : ℕ) where
  -- no variable
  pub marked_none : (rows : List (List Bool)) → IsMarkedAt value n [] rows rows
  marked_none rows = record {
    len = refl;
    each = λ m. refl;
    bits = λ m x. ap (λ b. if b then value else has_bit rows x m) (sym (and-false (nat_eq n m)));
  }

  -- two lists one after the other
  pub marked_both : (xs ys : List ℕ) (old mid new : List (List Bool)) → IsMarkedAt value n xs old mid → IsMarkedAt value n ys mid new → IsMarkedAt value n (xs ++ ys) old new
  marked_both xs ys old mid new p q = record {
    len = q.len ∙ p.len;
    each = λ m. q.each m ∙ p.each m;
    bits = λ m x. q.bits m x ∙ ap (λ b. if nat_eq n m && is_in x ys then value else b) (p.bits m x) ∙ write_twice value (has_bit old x m) (nat_eq n m) (is_in x xs) (is_in x ys) ∙ ap (λ b. if nat_eq n m && b then value else has_bit old x m) (sym (is_in_append x xs ys));
  }

  -- one variable
  pub marked_one : (x : ℕ) (rows new : List (List Bool)) → n < length rows → x < length (row_of rows n) → new ≡ set rows n (set (row_of rows n) x value) → IsMarkedAt value n (x ∷ []) rows new
  marked_one x rows new n_in x_in is = subst (IsMarkedAt value n (x ∷ []) rows) (sym is) (record { len = length-set rows n row; each = each; bits = bits })
    where
      row : List Bool
      row = set (row_of rows n) x value

      at_n : row_of (set rows n row) n ≡ row
      at_n = get_or-set_same rows n row [] n_in

      at_other : (m : ℕ) → m ≢ n → row_of (set rows n row) m ≡ row_of rows m
      at_other m differ = get_or-set_other rows n m row [] differ

      each : (m : ℕ) → length (row_of (set rows n row) m) ≡ length (row_of rows m)
      each m = elim (cases_eq m n) as (λ _. length (row_of (set rows n row) m) ≡ length (row_of rows m)) [
        | inl same ↦ rw (same, at_n) (length-set (row_of rows n) x value)
        | inr differ ↦ rw (at_other m differ) refl
      ]

      bit : (y : ℕ) → get_or row y false ≡ (if nat_eq x y || false then value else has_bit rows y n)
      bit y = elim (cases_eq y x) [
        | inl same ↦ ap (λ z. get_or row z false) same ∙ get_or-set_same (row_of rows n) x value false x_in ∙ sym (ap (λ b. if b || false then value else has_bit rows y n) (eq-eqb x y (sym same)))
        | inr differ ↦ get_or-set_other (row_of rows n) x y value false differ ∙ sym (ap (λ b. if b || false then value else has_bit rows y n) (ne_eqb x y (λ e. differ (sym e))))
      ]

      bits : (m y : ℕ) → has_bit (set rows n row) y m ≡ (if nat_eq n m && is_in y (x ∷ []) then value else has_bit rows y m)
      bits m y = elim (cases_eq m n) [
        | inl same ↦ ap (λ k. has_bit (set rows n row) y k) same ∙ ap (λ r. get_or r y false) at_n ∙ bit y ∙ sym (ap (λ b. if b && (nat_eq x y || false) then value else has_bit rows y m) (eq-eqb n m (sym same)) ∙ ap (λ k. if nat_eq x y || false then value else has_bit rows y k) same)
        | inr differ ↦ ap (λ r. get_or r y false) (at_other m differ) ∙ sym (ap (λ b. if b && (nat_eq x y || false) then value else has_bit rows y m) (ne_eqb n m (λ e. differ (sym e))))
      ]

  -- one global more
  pub marked_global : (x : ℕ) (old mid new : List (List Bool)) → n < length mid → x < length (row_of mid n) → IsMarkedAt value n (shared_vars x) old mid → new ≡ set mid n (set (row_of mid n) x value) → IsMarkedAt value n (shared_vars (x + 1)) old new
  marked_global x old mid new n_in x_in before is = subst (λ xs. IsMarkedAt value n xs old new) (sym (shared_more x)) (marked_both (shared_vars x) (x ∷ []) old mid new before (marked_one x mid new n_in x_in is))

-- set bits
pub marked_or : (n : ℕ) (vars : List ℕ) (old new : List (List Bool)) → IsMarkedAt true n vars old new → (m x : ℕ) → has_bit new x m ≡ (has_bit old x m || (nat_eq n m && is_in x vars))
marked_or n vars old new marked m x = marked.bits m x ∙ set_is_or (has_bit old x m) (nat_eq n m && is_in x vars)

-- what a node assigns is not live before it, and what it reads is
pub passes_back : (graph : GraphShape) (node : Node) (n : ℕ) (old mid new : List (List Bool)) → IsMarkedAt false n (assigned_vars graph node) old mid → IsMarkedAt true n (node_reads graph node) mid new → PassesBack graph node n old new
passes_back graph node n old mid new assigned read = record {
  len = read.len ∙ assigned.len;
  each = λ m. read.each m ∙ assigned.each m;
  bits = λ m x. read.bits m x ∙ ap (λ b. if nat_eq n m && is_in x (node_reads graph node) then true else b) (assigned.bits m x) ∙ back (nat_eq n m) (is_in x (node_reads graph node)) (is_in x (assigned_vars graph node)) (has_bit old x m);
}
  where
    back : (here read assigned old : Bool) → (if here && read then true else (if here && assigned then false else old)) ≡ (if here then read || (old && not assigned) else old)
    back true true assigned old = refl
    back true false true true = refl
    back true false true false = refl
    back true false false true = refl
    back true false false false = refl
    back false read assigned old = refl

-- a node that touches nothing has no variable
touched_none : (graph : GraphShape) (node : Node) → touches_none node ≡ true → (node_reads graph node ≡ []) × (assigned_vars graph node ≡ [])
touched_none graph (Start next) e = (refl, refl)
touched_none graph (Skip next) e = (refl, refl)
touched_none graph (Assign x rhs next) e = absurd (cc)
touched_none graph (Print a next) e = absurd (cc)
touched_none graph (Guard test number next) e = absurd (cc)
touched_none graph (Call into unit operands next) e = absurd (cc)
touched_none graph (Test test taken other) e = absurd (cc)
touched_none graph (Return a) e = absurd (cc)

-- so the rows of what is assigned are as they are
pub marks_none : (value : Bool) (graph : GraphShape) (node : Node) (n : ℕ) (rows : List (List Bool)) → touches_none node ≡ true → IsMarkedAt value n (assigned_vars graph node) rows rows
marks_none value graph node n rows e = subst (λ xs. IsMarkedAt value n xs rows rows) (sym (touched_none graph node e).1) (marked_none value n rows)

-- and those of what is live
pub passes_none : (graph : GraphShape) (node : Node) (n : ℕ) (rows : List (List Bool)) → touches_none node ≡ true → PassesBack graph node n rows rows
passes_none graph node n rows e = passes_back graph node n rows rows rows (marks_none false graph node n rows e) (subst (λ xs. IsMarkedAt true n xs rows rows) (sym (touched_none graph node e).0) (marked_none true n rows))

-- ---- shapes

-- rows of false bits have their shape
pub false_rows : (nodes bits : ℕ) → AreRows nodes bits (replicate nodes (replicate bits false))
false_rows nodes bits = record {
  len = length-replicate nodes (replicate bits false);
  each = λ m m_in. ap length (get_or-replicate nodes m (replicate bits false) [] m_in) ∙ length-replicate bits false;
}

-- and have no bit
pub no_bits : (nodes bits n x : ℕ) → has_bit (replicate nodes (replicate bits false)) x n ≡ false
no_bits zero bits n x = refl
no_bits (suc nodes) bits zero x = false_bit bits x
no_bits (suc nodes) bits (suc n) x = no_bits nodes bits n x

-- the shape stays
pub still_rows : (value : Bool) (nodes bits n : ℕ) (vars : List ℕ) (old new : List (List Bool)) → AreRows nodes bits old → IsMarkedAt value n vars old new → AreRows nodes bits new
still_rows value nodes bits n vars old new are marked = record { len = marked.len ∙ are.len; each = λ m m_in. marked.each m ∙ are.each m m_in }
