use Rattle.std.proofs.Common.{◌≡◌, ◌∙◌, ℕ, List, ap, sym}
use Rattle.fresh_names.proofs.Taken.{any_bytes, borrowed_bytes, has_text, has_contains}
use Rattle.fresh_names.proofs.TakenNames.has.Goals as goal

looked_up : (c : goal.After-contains) → c.contains.result ≡ has_text c.args.self.now c.args.name.now
looked_up c = c.contains.ensures ∙ any_bytes c.self.inside.names.keys c.bytes.result.now ∙ ap (has_text (borrowed_bytes c.self.inside.names.keys)) c.bytes.ensures.value ∙ ap (λ (l : List (List ℕ)). has_text l c.args.name.now) c.self.view_is

pub returns : goal.returns
returns c = (λ h. (has_contains c.args.self.now c.args.name.now).0 (sym (looked_up c) ∙ h), λ there. looked_up c ∙ (has_contains c.args.self.now c.args.name.now).1 there)
