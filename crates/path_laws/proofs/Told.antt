-- What the answers of a problem say of paths.
use Rattle.std.proofs.Common.{◌≡◌, ◌<◌, ◌≤◌, ℕ, Bool, true, false, List, get_or, inl, inr, sym, ap, subst, arith, ◌∙◌}
use Rattle.std.proofs.lemmas.Bool.{cases_eq}
use Rattle.bit_rows.specs.Bits.{EachBitFlipped, row_of}
use Rattle.flow_graph.specs.Graphs.{GraphShape, IsGraph}
use Rattle.path_laws.specs.Blockwise.{HasAnswer}
use Rattle.path_laws.specs.Paths.{AreRows, AreBornAfter, AreBornAhead, AreBornBefore, BornBefore, HaveShape, Tell, has_bit, width}
use Rattle.path_laws.specs.RowLaws.{like_rows}
use Rattle.path_laws.specs.Seeds.{bars_of, seeds_of}
use Rattle.path_laws.specs.Statements.{AreTold, AreFlippedFor, goes_against, is_on_every}
use Rattle.path_laws.specs.declared.calls.Statement.{Statement}
use Rattle.path_laws.specs.declared.calls.Statement.TheVariants.{Before, After, Ahead}
use Rattle.path_laws.proofs.Complements.{none_from_on, on_from_none, seed_bit}
use Rattle.path_laws.proofs.Ways.{after_from_none, ahead_from_leads, before_from_none, leads_from_ahead, none_from_after, none_from_before, not_at_start}

module _ (graph : GraphShape) (is : IsGraph graph.vars graph.received graph.nodes) (born stop : List (List Bool)) where
  -- the rows answer a problem over these births and stops, on every path or on some, against the edges or along them
  abbrev pub Answer : Bool → Bool → List (List Bool) → Type 0
  Answer every against rows = Tell graph (width born) rows (λ b n. HasAnswer against graph.nodes (has_bit (seeds_of every against graph.nodes born stop) b) (has_bit (bars_of every born stop) b) n)

  -- some path from a node
  pub ahead : (rows : List (List Bool)) → Answer false true rows → AreBornAhead graph born stop rows
  ahead rows answers n b h l =
      let leads = answers n b h l in (
        λ on. ahead_from_leads graph.nodes (has_bit born b) (has_bit stop b) (λ m k edge. (is.can.succs m edge.0 k edge.1).1) n h (leads.0 on),
        λ s. leads.1 (leads_from_ahead graph.nodes (has_bit born b) (has_bit stop b) s.path n s.is_path s.begins s.ends),
      )

  -- every path from a node, or to it: the rows are flipped
  module _ (born_rows : HaveShape graph (width born) born) (stop_rows : HaveShape graph (width born) stop) (old new : List (List Bool)) (shape : HaveShape graph (width born) old) where
    pub after : Answer true true old → EachBitFlipped 0 old new → AreBornAfter graph born stop new
    after answers flipped n b h l =
        let leads = answers n b h l in
        let opposite = flipped n b (omega arith) (rw shape.len h) (rw (shape.each n h) l) in
        let seed = has_bit (seeds_of true true graph.nodes born stop) b in
        let seeds = seed_bit true graph.nodes (width born) born stop born_rows stop_rows b l in (
          λ on. after_from_none graph.nodes (has_bit born b) (has_bit stop b) seed seeds n (none_from_on _ _ _ opposite leads.1 on),
          λ all. on_from_none _ _ _ opposite leads.0 (none_from_after graph.nodes (has_bit born b) (has_bit stop b) seed seeds (λ m k edge. (is.can.succs m edge.0 k edge.1).1) n h all),
        )

    -- the row of Start is not flipped
    pub before : Answer true false old → ((n : ℕ) → n < 1 → row_of new n ≡ row_of old n) → EachBitFlipped 1 old new → AreBornBefore graph born stop new
    before answers kept flipped n b h l =
        let come = answers n b h l in
        let seed = has_bit (seeds_of true false graph.nodes born stop) b in
        let seeds = seed_bit false graph.nodes (width born) born stop born_rows stop_rows b l in
        elim (cases_eq n 0) [
          | inl start ↦
              let same : has_bit new b n ≡ has_bit old b n = ap (λ (xs : List Bool). get_or xs b false) (kept n (omega arith)) in (
                λ on. let pred = come.0 (sym same ∙ on) in let late : 1 ≤ n = (is.can.succs pred.0 pred.1.0 n pred.1.1).0 in absurd (omega arith),
                λ all. absurd (not_at_start graph.nodes (has_bit born b) (has_bit stop b) seed seeds (subst (BornBefore graph.nodes (has_bit born b) (has_bit stop b)) start all)),
              )
          | inr apart ↦
              let opposite = flipped n b (omega arith) (rw shape.len h) (rw (shape.each n h) l) in (
                λ on. before_from_none graph.nodes (has_bit born b) (has_bit stop b) seed seeds n apart (λ m step leads. none_from_on _ _ (HasAnswer false graph.nodes seed (has_bit born b) n) opposite come.1 on (m, step, leads)),
                λ all. on_from_none _ _ (HasAnswer false graph.nodes seed (has_bit born b) n) opposite come.0 (λ pred. none_from_before graph.nodes (has_bit born b) (has_bit stop b) seed seeds is.reached n all pred.0 pred.1 pred.2),
              )
        ]

-- the answers of a statement's problem, flipped, tell where the statement holds
pub told_of : (statement : Statement) (graph : GraphShape) (is : IsGraph graph.vars graph.received graph.nodes) (born stop old new : List (List Bool)) → HaveShape graph (width born) born → HaveShape graph (width born) stop → HaveShape graph (width born) old
    → Answer graph is born stop (is_on_every statement) (goes_against statement) old → AreFlippedFor statement old new → AreTold statement graph born stop new
told_of Before graph is born stop old new born_rows stop_rows shape answers flipped = before graph is born stop born_rows stop_rows old new shape answers flipped.1 flipped.2
told_of After graph is born stop old new born_rows stop_rows shape answers flipped = after graph is born stop born_rows stop_rows old new shape answers flipped.1
told_of Ahead graph is born stop old new born_rows stop_rows shape answers flipped = subst (AreBornAhead graph born stop) (sym flipped) (ahead graph is born stop old answers)

-- and keep their shape
pub flipped_shape : (statement : Statement) (nodes bits : ℕ) (old new : List (List Bool)) → AreRows nodes bits old → AreFlippedFor statement old new → AreRows nodes bits new
flipped_shape Before nodes bits old new shape flipped = like_rows nodes bits old new shape flipped.0
flipped_shape After nodes bits old new shape flipped = like_rows nodes bits old new shape flipped.0
flipped_shape Ahead nodes bits old new shape flipped = subst (AreRows nodes bits) (sym flipped) shape
