-- One push, and the begin and the end of a visit, at the lists that the code holds.
use Rattle.std.proofs.Common.{◌≡◌, ◌≢◌, ℕ, ◌+◌, ◌<◌, ◌≤◌, Bool, true, false, ◌||◌, ◌&&◌, not, eqb, List, sym, inl, inr, ◌∙◌, get_or-set_other}
use Rattle.std.proofs.lemmas.Bool.{cases_eq, or_parts}
use Rattle.std.proofs.lemmas.List.{length-set}
use Rattle.fix_solve.specs.Order.{OrderLaws}
use Rattle.fix_solve.specs.Net.{Net, NetLaws, value_at, HoldsFirst}
use Rattle.fix_solve.specs.Solving.{Working, Pushed, AllDone, load, degree, nodes_left, pushes_left}
use Rattle.fix_solve.proofs.Solves.{push_solves, visit_begins, visit_ends, start_solves, size_above}
use Rattle.fix_solve.proofs.Loads.{load_push, load_take}
use Rattle.fix_solve.proofs.Waiting.{leaves_other, leaves_here}
use Rattle.node_list.specs.Lists.{is_listed}

-- without a node fewer pushes are left to do, and fewer visits
pub record LessLeft {V : Type 0} (net : Net V) (rank : V → ℕ) (values : List V) (waits waits' : ℕ → Bool) (node : ℕ) : Type 0 where
  pub pushes : pushes_left net rank values waits' + degree net node ≤ pushes_left net rank values waits
  pub nodes : nodes_left net rank values waits' + 1 ≤ nodes_left net rank values waits

module _ {V : Type 0} (below : V → V → Type 0) (size : V → ℕ) (rank : V → ℕ) (order : OrderLaws below size rank) (net : Net V) (laws : NetLaws below size rank net) where
  -- each value has the flow's size
  pub working_sizes : (values : List V) (fl : ℕ → Bool) (done : ℕ → Type 0) → Working below net values fl done → (n : ℕ) → n < net.nodes → size (value_at net values n) ≡ net.size
  working_sizes values fl done w n h = size_above below size rank order net laws n (value_at net values n) h (w.solving.above_first n h)

  -- a push along an edge, whose target waits if it changed
  module _ (number t : ℕ) (values values' : List V) (fl fl' : ℕ → Bool) (b : Bool) (in_range : number < net.edges) (t_is : t ≡ net.target number) (pushed : Pushed below net number values values' b)
      (others_fl : (n : ℕ) → n ≢ t → fl' n ≡ fl n) (here : fl' t ≡ (fl t || b)) where
    others_stay : (n : ℕ) → n ≢ net.target number → value_at net values' n ≡ value_at net values n
    others_stay n d = rw pushed.others (get_or-set_other values (net.target number) n (value_at net values' (net.target number)) (net.first n) d)

    pub working_push : (node : ℕ) → net.source number ≡ node → Working below net values fl (λ e. net.source e ≡ node → e < number)
        → Working below net values' fl' (λ e. net.source e ≡ node → e < number + 1)
    working_push node of_node w =
        record {
          len = rw pushed.others (length-set values (net.target number) (value_at net values' (net.target number)) ∙ w.len);
          solving = push_solves below size rank order net laws node number (value_at net values) (value_at net values') fl fl'
              in_range of_node (rw of_node at pushed.joined) others_stay
              (λ n off. elim (cases_eq n t) as (λ _. (fl n ≡ false) × (value_at net values' n ≡ value_at net values n)) [
                | inl e ↦
                    let off_t : (fl t || b) ≡ false = sym here ∙ (rw e at off) in
                    let parts = or_parts (fl t) b off_t in
                    rw e (parts.0, (let same = pushed.unchanged.0 parts.1 in rw t_is same))
                | inr d ↦ (sym (others_fl n d) ∙ off, others_stay n (λ e. d (e ∙ sym t_is)))
              ])
              w.solving;
        }

    pub load_after : (weight : ℕ → ℕ) (done : ℕ → Type 0) → Working below net values fl done
        → load net rank weight (value_at net values') fl' ≤ load net rank weight (value_at net values) fl
    load_after weight done w =
        load_push below size rank order net laws weight (value_at net values) (value_at net values') fl fl' t b
        (rw t_is (laws.targets number in_range)) (λ n d. others_stay n (λ e. d (e ∙ sym t_is))) others_fl here
        (rw t_is pushed.joined.left) (rw t_is pushed.unchanged)
        (rw t_is (sym (order.same_size _ _ pushed.joined.left) ∙ working_sizes values fl done w (net.target number) (laws.targets number in_range)))

  -- a node that no longer waits
  module _ (node : ℕ) (values : List V) (fl fl' : ℕ → Bool) (in_range : node < net.nodes) (w : Working below net values fl AllDone) (others_fl : (n : ℕ) → n ≢ node → fl' n ≡ fl n) where
    pub working_begins : Working below net values fl' (λ e. net.source e ≡ node → e < net.start node)
    working_begins = record {
      len = w.len;
      solving = visit_begins below size rank order net laws node (value_at net values) fl fl' others_fl w.solving;
    }

    pub load_begins : (weight : ℕ → ℕ) → fl node ≡ true → fl' node ≡ false
        → load net rank weight (value_at net values) fl' + weight node ≤ load net rank weight (value_at net values) fl
    load_begins weight on off = load_take below size rank order net laws weight (value_at net values) fl fl' node in_range others_fl on off

  -- what is left to do becomes less, by both weights, when a node that waits is taken from the list
  pub load_taken : (node : ℕ) (values : List V) (lists : List (List ℕ)) (fl' : ℕ → Bool) → node < net.nodes → Working below net values (is_listed lists) AllDone
      → is_listed lists node ≡ true → ((k : ℕ) → fl' k ≡ (is_listed lists k && not (eqb k node))) → LessLeft net rank values (is_listed lists) fl' node
  load_taken node values lists fl' in_range w waits listed =
      let less = λ (weight : ℕ → ℕ). load_begins node values (is_listed lists) fl' in_range w (λ n d. leaves_other (is_listed lists) fl' node n listed d) weight waits (leaves_here (is_listed lists) fl' node listed) in
      record { pushes = less (degree net); nodes = less (λ _. 1) }

  -- with all edges of the node done, all are
  pub working_ends : (node at : ℕ) (values : List V) (fl : ℕ → Bool) → net.stop node ≤ at → Working below net values fl (λ e. net.source e ≡ node → e < at) → Working below net values fl AllDone
  working_ends node at values fl late w = record {
    len = w.len;
    solving = visit_ends below size rank order net laws node at (value_at net values) fl late w.solving;
  }

  -- the first values, and each node waits
  pub working_starts : (values : List V) (fl : ℕ → Bool) → HoldsFirst net values → ((n : ℕ) → n < net.nodes → fl n ≡ true) → Working below net values fl AllDone
  working_starts values fl first waiting = record {
    len = first.len;
    solving = start_solves below size rank order net laws (value_at net values) fl first.each waiting;
  }
