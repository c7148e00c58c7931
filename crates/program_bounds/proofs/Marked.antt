-- Units that are marked as stale where facts are raised.
use Rattle.std.proofs.Common.{◌≡◌, ◌≢◌, ℕ, Bool, true, false, ◌||◌, inl, inr, List, [], ◌∷◌, slice_index_or, refl, sym, ap, ◌∙◌, true≢false, eq-eqb}
use Rattle.std.proofs.lemmas.Bool.{cases_eq}
use Rattle.flow_graph.specs.Numbering.{is_in}
use Rattle.unit_callers.specs.Stale.{CallersMarked}
use Rattle.bounds.specs.declared.facts.Fact.{Fact}
use Rattle.cond_flow.specs.States.{NodeState}
use Rattle.program_bounds.specs.Facts.{ProgramFacts, row_at}
use Rattle.program_bounds.specs.Stale.{RaisedMarked}

-- facts that stay
pub marked_none : (callers : List ℕ) (u : ℕ) (known : ProgramFacts) (marks : List Bool) → RaisedMarked callers u known known marks marks
marked_none callers u known marks = record { long = refl; keeps = λ w off. (off, refl); backs = λ w v off calls. refl }

-- facts that are raised twice
pub marked_both : (callers : List ℕ) (u : ℕ) (old mid new : ProgramFacts) (marks now after : List Bool) → RaisedMarked callers u old mid marks now → RaisedMarked callers u mid new now after → RaisedMarked callers u old new marks after
marked_both callers u old mid new marks now after first second = record {
  long = second.long ∙ first.long;
  keeps = λ w off.
      let late = second.keeps w off in
      let early = first.keeps w late.0 in
      (early.0, late.1 ∙ early.1);
  backs = λ w v off calls. second.backs w v off calls ∙ first.backs w v (second.keeps w off).0 calls;
}

-- where marks stay that have been raised, nothing was
unraised : (raised : Bool) (units : List ℕ) (marks after : List Bool) (w : ℕ) → CallersMarked raised units marks after → slice_index_or after w true ≡ false → is_in w units ≡ true → raised ≡ false
unraised false units marks after w marked off calls = refl
unraised true units marks after w marked off calls = absurd (true≢false (sym calls ∙ (marked.keeps w off).1 refl))

module _ (callers : List ℕ) (u : ℕ) (entries backs more : List (NodeState Fact)) (raised : Bool) (marks after : List Bool) where
  -- what is known where a unit is entered
  pub entry_marked : (v : ℕ) → ((w : ℕ) → w ≢ v → row_at more w ≡ row_at entries w) → (raised ≡ false → more ≡ entries) → CallersMarked raised (v ∷ []) marks after
      → RaisedMarked callers u (record { entries = entries; backs = backs }) (record { entries = more; backs = backs }) marks after
  entry_marked v other stays marked = record {
    long = marked.long;
    keeps = λ w off. (
      (marked.keeps w off).0,
      elim (cases_eq w v) [
        | inl e ↦ ap (λ l. row_at l w) (stays (unraised raised (v ∷ []) marks after w marked off (ap (λ b. b || false) (eq-eqb v w (sym e)))))
        | inr ne ↦ other w ne
      ],
    );
    backs = λ w x off calls. refl;
  }

  -- what a unit hands back
  pub back_marked : ((w : ℕ) → w ≢ u → row_at more w ≡ row_at backs w) → (raised ≡ false → more ≡ backs) → CallersMarked raised callers marks after
      → RaisedMarked callers u (record { entries = entries; backs = backs }) (record { entries = entries; backs = more }) marks after
  back_marked other stays marked = record {
    long = marked.long;
    keeps = λ w off. ((marked.keeps w off).0, refl);
    backs = λ w v off calls. elim (cases_eq v u) [
      | inl e ↦ ap (λ l. row_at l v) (stays (unraised raised callers marks after w marked off (calls e)))
      | inr ne ↦ other v ne
    ];
  }
