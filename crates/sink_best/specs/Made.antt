-- The graphs that lists of steps make of a graph are images of it, and stay above one at rest. For proofs only.
use Rattle.std.proofs.Common.{◌≡◌, ◌<◌, ◌≤◌, ℕ, Bool, true, false, if◌then◌else◌, nat_lt, filter, List, [], ◌∷◌, ◌++◌, length, flat_map, reverse, slice_get, Option, inl, inr, refl, sym, ap, ◌∙◌, subst, arith}
use Rattle.std.proofs.lemmas.Bool.{cases_lt, true≢false}
use Rattle.std.proofs.lemmas.List.{reverse-reverse}
use Rattle.mir_base.specs.declared.instructions.Rhs.{Rhs}
use Rattle.flow_graph.specs.Graphs.{GraphShape, IsGraph}
use Rattle.flow_graph.specs.Paths.{HasEdge, goes_on}
use Rattle.graph_edit.specs.InsertionNodes.{rewritten_length}
use Rattle.graph_edit.specs.InsertionPaths.{rewritten_alone, rewritten_under}
use Rattle.graph_edit.specs.Insertions.{Insertion, Rewriting, rewritten}
use Rattle.graph_edit.specs.Over.{IsOver, over_path}
use Rattle.dead_code.specs.Pruned.{IsDeadAt, pruned_from}
use Rattle.dead_code.specs.PrunedPathLaws.{pruned_length}
use Rattle.sink_rounds.specs.Steps.{IsSinking, IsStep}
use Rattle.sink_rounds.specs.StepLaws.{step_fits}
use Rattle.sink_rounds.specs.Unpruned.{full_stood}
use Rattle.path_images.specs.Ends.{IsEndOf, end_length, ends_compare, longer_end, longer_length}
use Rattle.path_images.specs.Walks.{IsPlaced, Place, lift_end, place_of}
use Rattle.path_images.specs.Images.{Ask, IsAbove, IsImage, NoneDead, Sets}
use Rattle.path_images.specs.Composed.{composed, entry_of, lift_both, over_both}
use Rattle.path_images.specs.Keeping.{Stop}
use Rattle.path_images.specs.Kept.{removal_keeps, sinking_keeps}
use Rattle.path_images.specs.Removed.{IsOneRemoval, alone, kept_alike, lift_alone, read_stays, removed_image}
use Rattle.path_images.specs.Sunk.{sunk_image}
use Rattle.path_images.specs.Sunk as sunk
use Rattle.path_images.specs.SunkAbove.{firm_stays, stays_or_late}
use Rattle.sink_best.specs.GraphWalks.{IsWalk, firm_at, graph_does, last_edge, loose_assigns, occurrence_loose, walk_joint, walk_shorter, walk_single, walk_unentered}
use Rattle.sink_best.specs.OneSinking as one
use Rattle.sink_best.specs.OneSinking.{chain, goes_away, is_old, late_of, new_graph, new_loose, one_sinking, pattern_does, same_firm, what}
use Rattle.sink_best.specs.OneLift.{LeadsOn, Next, grounded, lifts, moves, one_onward, stays, sunk_over}
use Rattle.sink_best.specs.OneRemoval.{edge_stood, firm_within, one_removal, path_stays, path_stood, pruned_graph, removed_does, removed_firm}
use Rattle.sink_best.specs.Over.{filter_both, filter_path, over_backwards}

module _ (source : GraphShape) (is_source : IsGraph source.vars source.received source.nodes) where
  abbrev Walk : List ℕ → Type 0
  Walk = IsWalk source.nodes

  abbrev does : Ask Insertion → ℕ → Bool
  does = graph_does source

  abbrev firm : ℕ → Bool
  firm = firm_at source.nodes

  -- a graph that steps have made of the source
  pub record Made (made : GraphShape) : Type 0 where
    pub is_graph : IsGraph made.vars made.received made.nodes
    pub over : ℕ → List ℕ
    pub from : List ℕ → List ℕ
    pub image : IsImage Insertion (IsWalk source.nodes) (graph_does source) (firm_at source.nodes) over (graph_does made) from
    pub lifted : (path : List ℕ) → IsWalk source.nodes path → IsWalk made.nodes (flat_map over path)
    pub onward : LeadsOn (IsWalk source.nodes) over made.nodes
    pub same_firm : (n : ℕ) → firm_at made.nodes n ≡ firm_at source.nodes n
    pub more : length source.nodes ≤ length made.nodes
    pub ground : (n : ℕ) (before : List ℕ) → n < length source.nodes → IsWalk made.nodes (n ∷ before)
        → (gb : List ℕ) × IsWalk source.nodes (n ∷ gb) × (n ∷ before ≡ flat_map over (n ∷ gb))
    pub one_over : (path other : List ℕ) → IsOver source.nodes made.nodes path other → other ≡ reverse (flat_map over (reverse path))

  -- it is at rest: nothing is dead, and in a round no assignment passes a firm node
  pub record Rests (made : GraphShape) (m : Made made) : Type 0 where
    pub none_dead : NoneDead Insertion (IsWalk source.nodes) (graph_does source) (firm_at source.nodes) m.over (graph_does made)
    pub at_rest : (p : List ℕ) (k : ℕ) (rest : List ℕ) (x : ℕ) → IsWalk source.nodes p
        → IsEndOf (k ∷ rest) (flat_map m.over p) → IsPlaced m.over (k ∷ rest) p → firm_at source.nodes k ≡ false
        → graph_does made (Sets x) k ≡ true
        → (Stop Insertion (IsWalk source.nodes) (graph_does source) (firm_at source.nodes) m.over (graph_does made) p k rest → ⊥) → ⊥

  -- of each assignment that stands in the one its origin stands in the other too
  abbrev pub Above : (made still : GraphShape) → Made made → Made still → Type 0
  Above made still m z = IsAbove Insertion (IsWalk source.nodes) (graph_does source) (firm_at source.nodes) m.over (graph_does made) m.from z.over (graph_does still) z.from

  -- one more step, which stays above what is at rest
  pub record OneMore (made next : GraphShape) (m : Made made) : Type 0 where
    pub is : Made next
    pub keeps : (still : GraphShape) (z : Made still) → Rests still z → Above made still m z → Above next still is z

  -- ---- the source itself

  pub itself : Made source
  itself = record {
    is_graph = is_source;
    over = alone Insertion Walk does firm (λ n. false);
    from = λ l. l;
    image = removed_image Insertion Walk does firm (λ n. false) (record {
      shorter = walk_shorter source.nodes;
      firm_stays = λ n is. refl;
      unread = λ k d y path before walk reads last gone. true≢false (sym gone);
      assigns = λ n acts not. loose_assigns source (slice_get source.nodes n) not acts;
    });
    lifted = λ path walk. subst Walk (sym (lift path)) walk;
    onward = λ path k rest walk at placed to edge. on path k rest walk (subst (IsEndOf (k ∷ rest)) (lift path) at) placed to edge;
    same_firm = λ n. refl;
    more = omega arith;
    ground = λ n before lt walk. (before, walk, sym (lift (n ∷ before)));
    one_over = λ path other is. sym (filter_path source.nodes other is.full.is_path) ∙ is.same ∙ sym (reverse-reverse path) ∙ ap reverse (sym (lift (reverse path)));
  }
    where
      lift : (path : List ℕ) → flat_map (alone Insertion Walk does firm (λ n. false)) path ≡ path
      lift = lift_alone Insertion Walk does firm (λ n. false)

      on : (path : List ℕ) (k : ℕ) (rest : List ℕ) → Walk path → IsEndOf (k ∷ rest) path
          → IsPlaced (alone Insertion Walk does firm (λ n. false)) (k ∷ rest) path → (to : ℕ)
          → HasEdge source.nodes k to → Next Walk (alone Insertion Walk does firm (λ n. false)) path k rest to
      on path k rest walk at placed to edge = by at.0 at.1
        where
          by : (f : List ℕ) → path ≡ f ++ (k ∷ rest) → Next Walk (alone Insertion Walk does firm (λ n. false)) path k rest to
          by [] e = moves to (subst (λ p. Walk (to ∷ p)) (sym e) (goes_on k to rest (subst Walk e walk) edge)) (sym e ∙ sym (lift path)) (subst (IsEndOf (to ∷ flat_map (alone Insertion Walk does firm (λ n. false)) path)) refl ([], refl))
          by (h ∷ f) e =
              let longer = longer_length (k ∷ rest) (flat_map (alone Insertion Walk does firm (λ n. false)) (f ++ (k ∷ rest))) (placed h (f ++ (k ∷ rest)) e) in
              let same = ap length (lift (f ++ (k ∷ rest))) in
              let low = end_length (k ∷ rest) (f ++ (k ∷ rest)) (f, refl) in
              absurd (omega (arith, longer, same, low))

  -- it is above each of the graphs that steps have made of it
  pub itself_above : (still : GraphShape) (z : Made still) → Above source still itself z
  unfolding itself
  itself_above still z path k rest walk at acts go =
      let o = z.image.origin path k rest walk at acts in
      go (record {
        on = [];
        walk = walk;
        loose = tt;
        node = o.node;
        before = o.before;
        at = subst (IsEndOf (o.node ∷ o.before)) (sym (lift_alone Insertion Walk does firm (λ n. false) path)) (subst (λ l. IsEndOf l path) o.is o.at);
        same = sym o.is;
        alike = λ q. sym (o.alike q);
        firm_same = sym o.firm_same;
      })

  -- ---- a sinking

  module _ (made : GraphShape) (m : Made made) (r : Rewriting) (late : ℕ → ℕ → Option Rhs) (sinks : IsSinking made r late) where
    abbrev new : GraphShape
    new = rewritten r [] made

    abbrev WalkM : List ℕ → Type 0
    WalkM = IsWalk made.nodes

    abbrev doesM : Ask Insertion → ℕ → Bool
    doesM = graph_does made

    abbrev over1 : ℕ → List ℕ
    over1 = sunk_over made m.is_graph r late sinks

    abbrev oldM : ℕ → Bool
    oldM = is_old made m.is_graph r late sinks

    abbrev goneM : ℕ → Bool
    goneM = goes_away made m.is_graph r late sinks

    abbrev lateM : ℕ → ℕ → Option Insertion
    lateM = late_of made m.is_graph r late sinks

    abbrev chainM : ℕ → List ℕ
    chainM = chain made m.is_graph r late sinks

    abbrev whatM : ℕ → Insertion
    whatM = what made m.is_graph r late sinks

    abbrev from1 : List ℕ → List ℕ
    from1 = sunk.from Insertion WalkM doesM pattern_does oldM goneM lateM chainM whatM (graph_does new)

    abbrev over2 : ℕ → List ℕ
    over2 = over_both over1 m.over

    abbrev lift1 : List ℕ → List ℕ
    lift1 = flat_map over1

    abbrev liftM : List ℕ → List ℕ
    liftM = flat_map m.over

    firm_new : (n c : ℕ) (rest : List ℕ) → IsEndOf (c ∷ rest) (chainM n) → firm c ≡ false
    firm_new n c rest at = sym (same_firm made m.is_graph r late sinks c ∙ m.same_firm c) ∙ new_loose made m.is_graph r late sinks n c rest at

    firm_gone : (n : ℕ) → firm n ≡ true → goneM n ≡ false
    firm_gone n is = one.firm_kept made m.is_graph r late sinks n (m.same_firm n ∙ is)

    image1 : IsImage Insertion WalkM doesM firm over1 (graph_does new) from1
    image1 = sunk_image Insertion WalkM doesM pattern_does oldM goneM lateM chainM whatM (graph_does new) (one_sinking made m.is_graph r late sinks) firm firm_new
        (λ n p is. sym (m.same_firm n) ∙ occurrence_loose p (slice_get made.nodes n) is)
        (λ k acts not. loose_assigns new (slice_get new.nodes k) (same_firm made m.is_graph r late sinks k ∙ m.same_firm k ∙ not) acts)
        (λ n is q. one.kept_alike made m.is_graph r late sinks n (firm_within made.nodes n (m.same_firm n ∙ is)) (firm_gone n is) q)

    on_both : LeadsOn Walk over2 new.nodes
    on_both path k rest walk at placed to edge = by (one_onward made m.is_graph r late sinks (pl.node ∷ pl.before) k rest walk_h pl.at pl.placed to edge)
      where
        at_1 : IsEndOf (k ∷ rest) (lift1 (liftM path))
        at_1 = subst (IsEndOf (k ∷ rest)) (lift_both over1 m.over path) at

        pl : Place over1 (k ∷ rest) (liftM path)
        pl = place_of over1 k rest (liftM path) at_1

        walk_h : WalkM (pl.node ∷ pl.before)
        walk_h = walk_shorter made.nodes pl.part.0 pl.node pl.before (subst WalkM pl.part.1 (m.lifted path walk))

        -- it stands before the last node of the path there too
        placed_h : IsPlaced m.over (pl.node ∷ pl.before) path
        placed_h n q e = elim (cases_lt (length (liftM q)) (length (pl.node ∷ pl.before))) [
          | inl less ↦ longer_end (pl.node ∷ pl.before) (liftM q) (liftM path) pl.part (subst (λ p. IsEndOf (liftM q) (liftM p)) (sym e) (m.over n, refl)) less
          | inr ge ↦
              let low = ends_compare (pl.node ∷ pl.before) (liftM q) (liftM path) pl.part (subst (λ p. IsEndOf (liftM q) (liftM p)) (sym e) (m.over n, refl)) ge in
              let inside = end_length (k ∷ rest) (lift1 (liftM q)) (lift_end over1 (k ∷ rest) (pl.node ∷ pl.before) (liftM q) low pl.at) in
              let longer = longer_length (k ∷ rest) (flat_map over2 q) (placed n q e) in
              let same = ap length (lift_both over1 m.over q) in
              absurd (omega (arith, inside, longer, same))
        ]

        up : (end l : List ℕ) (p : List ℕ) → IsEndOf l (liftM p) → IsEndOf end (lift1 l) → IsEndOf end (flat_map over2 p)
        up end l p low inside = subst (IsEndOf end) (sym (lift_both over1 m.over p)) (lift_end over1 end l (liftM p) low inside)

        by : Next WalkM over1 (pl.node ∷ pl.before) k rest to → Next Walk over2 path k rest to
        by (stays end) = stays (up (to ∷ k ∷ rest) (pl.node ∷ pl.before) path pl.part end)
        by (moves h walk_s whole end) = further (m.onward path pl.node pl.before walk pl.part placed_h h (last_edge made.nodes h pl.node pl.before walk_s))
          where
            end' : IsEndOf (to ∷ k ∷ rest) (lift1 (h ∷ (pl.node ∷ pl.before)))
            end' = subst (λ l. IsEndOf (to ∷ l) (lift1 (h ∷ (pl.node ∷ pl.before)))) (sym whole) end

            further : Next Walk m.over path pl.node pl.before h → Next Walk over2 path k rest to
            further (stays low) = stays (up (to ∷ k ∷ rest) (h ∷ (pl.node ∷ pl.before)) path low end')
            further (moves s walk_s' whole' low) =
                let all : k ∷ rest ≡ flat_map over2 path = whole ∙ ap lift1 whole' ∙ sym (lift_both over1 m.over path) in
                let low' : IsEndOf (h ∷ (pl.node ∷ pl.before)) (liftM (s ∷ path)) = subst (λ l. IsEndOf (h ∷ l) (liftM (s ∷ path))) (sym whole') low in
                moves s walk_s' all (subst (λ l. IsEndOf (to ∷ l) (flat_map over2 (s ∷ path))) all (up (to ∷ k ∷ rest) (h ∷ (pl.node ∷ pl.before)) (s ∷ path) low' end'))

    ground_both : (n : ℕ) (before : List ℕ) → n < length source.nodes → IsWalk new.nodes (n ∷ before)
        → (gb : List ℕ) × Walk (n ∷ gb) × (n ∷ before ≡ flat_map over2 (n ∷ gb))
    ground_both n before lt walk =
        let more = m.more in
        let s = grounded made m.is_graph r late sinks n before (omega (arith, lt, more)) walk in
        let g = m.ground n s.0 lt s.1 in
        (g.0, g.1, s.2 ∙ ap lift1 g.2 ∙ sym (lift_both over1 m.over (n ∷ g.0)))

    over_one : (path other : List ℕ) → IsOver source.nodes new.nodes path other → other ≡ reverse (flat_map over2 (reverse path))
    over_one path other is =
        let fits = step_fits made m.is_graph r late sinks in
        let mid = filter (λ n. nat_lt n (length made.nodes)) other in
        let full = rewritten_under r [] made fits m.is_graph other is.full in
        let other_is = rewritten_alone r [] made fits m.is_graph mid other (record { full = is.full; same = refl }) in
        let mid_is = m.one_over path mid (record { full = full; same = filter_both (length source.nodes) (length made.nodes) m.more other ∙ is.same }) in
        other_is ∙ ap (over_path r.inserts (length made.nodes)) mid_is ∙ over_backwards r made.nodes (liftM (reverse path)) ∙ ap reverse (sym (lift_both over1 m.over (reverse path)))

    pub sink_more : OneMore made (rewritten r [] made) m
    sink_more = record {
      is = record {
        is_graph = new_graph made m.is_graph r late sinks;
        over = over_both over1 m.over;
        from = λ l. m.from (from1 l);
        image = composed Insertion Walk does firm WalkM m.over doesM m.from m.image (walk_shorter source.nodes) m.lifted over1 (graph_does new) from1 image1;
        lifted = λ path walk. subst (IsWalk new.nodes) (sym (lift_both over1 m.over path)) (lifts made m.is_graph r late sinks (liftM path) (m.lifted path walk));
        onward = on_both;
        same_firm = λ n. same_firm made m.is_graph r late sinks n ∙ m.same_firm n;
        more = (let e = rewritten_length r made.nodes in let le = m.more in omega (arith, e, le));
        ground = ground_both;
        one_over = over_one;
      };
      keeps = λ still z rests above. sinking_keeps Insertion Walk does firm (walk_shorter source.nodes) (walk_single source.nodes) (walk_joint source.nodes) (walk_unentered source is_source) z.over (graph_does still) z.from z.image rests.none_dead m.over doesM m.from m.image above
          rests.at_rest over2 (graph_does new) (λ l. m.from (from1 l)) (record {
            stays = λ path n rest walk at is acts. firm_stays Insertion Walk does firm WalkM m.over doesM m.from m.lifted entry pattern_does oldM goneM lateM chainM whatM (graph_does new) (one_sinking made m.is_graph r late sinks) firm_new firm_gone path n rest walk at is;
            sinks = λ path n rest y walk at not sets none late'. stays_or_late Insertion Walk does firm WalkM m.over doesM m.from m.lifted entry pattern_does oldM goneM lateM chainM whatM (graph_does new) (one_sinking made m.is_graph r late sinks) firm_new firm_gone path n rest walk at not none late';
          });
    }
      where
        entry : (s : ℕ) → (front : List ℕ) × (node : ℕ) × (m.over s ≡ front ++ (node ∷ []))
        entry s = (let e = entry_of Insertion Walk does firm WalkM m.over doesM m.from m.image (walk_shorter source.nodes) m.lifted over1 (graph_does new) from1 image1 s in (e.front, e.node, e.is))

  -- ---- a removal

  module _ (made : GraphShape) (m : Made made) (dead : ℕ → Bool) (dead_are : (n : ℕ) → n < length made.nodes → dead n ≡ true → IsDeadAt made n) where
    abbrev after : GraphShape
    after = record made { nodes = pruned_from dead 0 made.nodes }

    abbrev does' : Ask Insertion → ℕ → Bool
    does' q n = if dead n then false else graph_does made q n

    removal : IsOneRemoval Insertion (IsWalk made.nodes) (graph_does made) firm dead
    removal = one_removal made m.is_graph dead dead_are firm m.same_firm

    same_does : does' ≡ graph_does after
    same_does = λ i q n. removed_does made m.is_graph dead dead_are q n i

    same_over : over_both (alone Insertion (IsWalk made.nodes) (graph_does made) firm dead) m.over ≡ m.over
    same_over = λ i n. lift_alone Insertion (IsWalk made.nodes) (graph_does made) firm dead (m.over n) i

    image' : IsImage Insertion Walk does firm m.over (graph_does after) m.from
    image' =
        subst (λ d. IsImage Insertion Walk does firm m.over d m.from) same_does
        (subst (λ o. IsImage Insertion Walk does firm o does' m.from) same_over
        (composed Insertion Walk does firm (IsWalk made.nodes) m.over (graph_does made) m.from m.image (walk_shorter source.nodes) m.lifted (alone Insertion (IsWalk made.nodes) (graph_does made) firm dead) does' (λ l. l)
        (removed_image Insertion (IsWalk made.nodes) (graph_does made) firm dead removal)))

    stays' : (path : List ℕ) → IsWalk made.nodes path → IsWalk after.nodes path
    stays' [] walk = walk
    stays' (n ∷ before) walk = (path_stays made m.is_graph dead dead_are n before walk).stayed

    pub remove_more : OneMore made (record made { nodes = pruned_from dead 0 made.nodes }) m
    remove_more = record {
      is = record {
        is_graph = pruned_graph made m.is_graph dead dead_are;
        over = m.over;
        from = m.from;
        image = image';
        lifted = λ path walk. stays' (flat_map m.over path) (m.lifted path walk);
        onward = λ path k rest walk at placed to edge. m.onward path k rest walk at placed to (edge_stood made m.is_graph dead dead_are k to edge);
        same_firm = λ n. removed_firm made m.is_graph dead dead_are n ∙ m.same_firm n;
        more = (let e = pruned_length dead 0 made.nodes in let le = m.more in omega (arith, e, le));
        ground = λ n before lt walk. m.ground n before lt (path_stood made m.is_graph dead dead_are n before walk);
        one_over = λ path other is. m.one_over path other (record { full = full_stood dead made.nodes other is.full; same = is.same });
      };
      keeps = λ still z rests above.
          subst (λ d. IsAbove Insertion Walk does firm m.over d m.from z.over (graph_does still) z.from) same_does
          (removal_keeps Insertion Walk does firm (walk_shorter source.nodes) (walk_single source.nodes) (walk_joint source.nodes) (walk_unentered source is_source) z.over (graph_does still) z.from z.image rests.none_dead m.over (graph_does made) m.from m.image above
          does' (record {
            firm_stays = λ n is q. kept_alike Insertion (IsWalk made.nodes) (graph_does made) firm dead n (removal.firm_stays n is) q;
            read_stays = λ path n rest y walk at sets on walk_on k before at_k reads last q.
                (let whole = m.lifted (on ++ path) walk_on in
                read_stays Insertion (IsWalk made.nodes) (graph_does made) firm dead removal k n y before rest (walk_shorter made.nodes at_k.0 k before (subst (IsWalk made.nodes) at_k.1 whole)) reads last q);
          }));
    }

  -- ---- a step

  pub step_more : (made next : GraphShape) (m : Made made) → IsStep made next → OneMore made next m
  step_more made next m step =
      let s = sink_more made m step.r step.late step.sinks in
      let p = remove_more (rewritten step.r [] made) s.is step.dead step.dead_are in
      subst (λ g. OneMore made g m) (sym step.is) (record { is = p.is; keeps = λ still z rests above. p.keeps still z rests (s.keeps still z rests above) })
