-- Sweeps over units: what is known is raised until it serves all units that are entered.
use Rattle.std.proofs.Common.{◌≡◌, ◌⊎◌, ℕ, ◌<◌, Bool, true, false, ◌||◌, inl, inr, List, length, replicate, slice_get, Option, refl, sym, ap, ◌∙◌, subst, arith, true≢false}
use Rattle.std.proofs.lemmas.Bool.{or_parts}
use Rattle.std.proofs.lemmas.List.{length-replicate}
use Rattle.std.proofs.lemmas.Option.{slice_get_within}
use Rattle.unit_callers.specs.Stale.{is_stale}
use Rattle.unit_callers.specs.StaleLaws.{all_marked}
use Rattle.bounds.specs.declared.facts.Fact.{Fact}
use Rattle.flow_graph.specs.Graphs.{GraphShape}
use Rattle.cond_flow.specs.States.{Knows}
use Rattle.program_bounds.specs.Facts.{AreLeastFacts, IsServed, ProgramFacts, row_at}
use Rattle.program_bounds.specs.Stale.{FreshAreServed}
use Rattle.program_bounds.specs.Sweeps.{IsProgress, Serves, Sweeps, SweepsTo, facts_room}

-- a unit that is not entered is served
pub not_entered : (graphs : List GraphShape) (u : ℕ) (known : ProgramFacts) → IsProgress graphs known → ((facts : List Fact) → row_at known.entries u ≡ Knows facts → ⊥) → Serves graphs u known known false
not_entered graphs u known progress never = record {
  progress = progress;
  room = omega arith;
  changes = λ on. absurd (true≢false (sym on));
  stays = λ off. refl;
  served = λ off graph facts at is. absurd (never facts is);
}

-- nor has one to be served that is not stale
pub served_already : (graphs : List GraphShape) (u : ℕ) (known : ProgramFacts) (stale : List Bool) (made : List (Option GraphShape)) → IsProgress graphs known → FreshAreServed graphs known stale made → is_stale stale u ≡ false → Serves graphs u known known false
served_already graphs u known stale made progress fresh off = record {
  progress = progress;
  room = omega arith;
  changes = λ on. absurd (true≢false (sym on));
  stays = λ none. refl;
  served = λ none graph facts at is. fresh.served u graph facts at is off;
}

-- at first all are
pub all_stale : (graphs : List GraphShape) (known : ProgramFacts) (stale : List Bool) (made : List (Option GraphShape)) → stale ≡ replicate (length graphs) true → length made ≡ length graphs → FreshAreServed graphs known stale made
all_stale graphs known stale made is long = record {
  long = ap (λ (l : List Bool). length l) is ∙ length-replicate {A = Bool} (length graphs) true;
  made_long = long;
  served = λ u graph facts at entered off. absurd (marked u off);
  is_made = λ u graph bounded at off there. absurd (marked u off);
}
  where
    marked : (u : ℕ) → is_stale stale u ≡ false → ⊥
    marked u off = true≢false (sym (all_marked (length graphs) u) ∙ ap (λ l. is_stale l u) (sym is) ∙ off)

-- no unit yet
pub sweeps_none : (graphs : List GraphShape) (Done : ℕ → Type 0) (known : ProgramFacts) → ((u : ℕ) → Done u → ⊥) → IsProgress graphs known → SweepsTo graphs Done known known false
sweeps_none graphs Done known none_done progress = record { progress = progress; room = omega arith; changes = λ on. absurd (true≢false (sym on)); stays = λ off. refl; served = λ off u graph facts done. absurd (none_done u done) }

-- one unit more
pub sweeps_more : (graphs : List GraphShape) (Done More : ℕ → Type 0) (u : ℕ) (old now new : ProgramFacts) (raised more : Bool) → ((v : ℕ) → More v → Done v ⊎ (v ≡ u)) → SweepsTo graphs Done old now raised → Serves graphs u now new more → SweepsTo graphs More old new (raised || more)
sweeps_more graphs Done More u old now new raised more either so_far serve = record {
  progress = serve.progress;
  room = omega (arith, so_far.room, serve.room);
  changes = changes raised more refl refl;
  stays = λ off. let parts = or_parts raised more off in serve.stays parts.1 ∙ so_far.stays parts.0;
  served = λ off v graph facts done at is.
      let parts = or_parts raised more off in
      elim (either v done) [
        | inl before ↦ subst (λ k. IsServed k graph v) (sym (serve.stays parts.1)) (so_far.served parts.0 v graph facts before at (ap (λ (k : ProgramFacts). row_at k.entries v) (sym (serve.stays parts.1)) ∙ is))
        | inr same ↦ subst (IsServed new graph) (sym same) (serve.served parts.1 graph facts (ap (slice_get graphs) (sym same) ∙ at) (ap (row_at new.entries) (sym same) ∙ is))
      ];
}
  where
    changes : (a b : Bool) → raised ≡ a → more ≡ b → (raised || more) ≡ true → facts_room new < facts_room old
    changes true b is is' on = omega (arith, so_far.changes is, serve.room)
    changes false true is is' on = omega (arith, so_far.room, serve.changes is')
    changes false false is is' on = absurd (true≢false (sym on ∙ ap (λ c. c || more) is ∙ is'))

-- a sweep after a sweep
pub sweeps_both : (graphs : List GraphShape) (old now new : ProgramFacts) (down up : Bool) → Sweeps graphs old now down → Sweeps graphs now new up → Sweeps graphs old new (down || up)
sweeps_both graphs old now new down up first second = record {
  progress = second.progress;
  room = omega (arith, first.room, second.room);
  changes = changes down up refl refl;
  stays = λ off. let parts = or_parts down up off in second.stays parts.1 ∙ first.stays parts.0;
  served = λ off u graph facts lt at is. let parts = or_parts down up off in second.served parts.1 u graph facts lt at is;
}
  where
    changes : (a b : Bool) → down ≡ a → up ≡ b → (down || up) ≡ true → facts_room new < facts_room old
    changes true b is is' on = omega (arith, first.changes is, second.room)
    changes false true is is' on = omega (arith, first.room, second.changes is')
    changes false false is is' on = absurd (true≢false (sym on ∙ ap (λ c. c || up) is ∙ is'))

-- where a sweep raises nothing, the facts are the surest that serve all units
pub least_at_rest : (graphs : List GraphShape) (old after : ProgramFacts) → Sweeps graphs old after false → AreLeastFacts graphs after
least_at_rest graphs old after s = record {
  served = record { fit = s.progress.fit; first = s.progress.first; units = λ u graph facts at is. s.served refl u graph facts (slice_get_within graphs u graph at) at is };
  least = s.progress.below;
}
