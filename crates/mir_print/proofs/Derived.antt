-- The canonical text of a program is derived by the grammar, line by line.
use Rattle.std.proofs.Common.{◌≡◌, ℕ, suc, ◌+◌, ◌≤◌, Bool, true, false, List, [], ◌∷◌, ◌++◌, length, map, codes, slice_get, Some, refl, sym, ap, ◌∙◌, subst, inl, append_assoc, arith, if◌then◌else◌}
use Rattle.std.specs.List.{flat_map}
use Rattle.std.proofs.lemmas.List.{append-nil, length_push}
use Rattle.mir_base.specs.declared.instructions.Inst.{Inst}
use Rattle.mir_base.specs.Names.{IsName}
use Rattle.mir_base.specs.Shapes.{UnitShape, ProgramShape}
use Rattle.mir_base.specs.Text.{is_target, label, label_before, Naming, inst_text as text_of_inst, lines_text, unit_text, global_text, canonical_text}
use Rattle.mir_lex.specs.declared.terminals.Symbol.{Symbol}
use Rattle.mir_lex.specs.declared.terminals.Symbol.TheVariants.{Name as NAME, Word as WORD, Mark as MARK, LineEnd as NL}
use Rattle.mir_lex.specs.declared.terminals.Terminal.{Terminal}
use Rattle.mir_lex.specs.declared.scan.Previous.{Previous}
use Rattle.mir_lex.specs.declared.scan.Previous.TheVariants.{LineEnd as AfterLineEnd, Other as AfterOther}
use Rattle.mir_lex.specs.declared.words.Mark.TheVariants.{Colon}
use Rattle.mir_base.specs.declared.words.Word.TheVariants.{Begin as BeginWord, End as EndWord, Global as GlobalWord}
use Rattle.mir_parse.specs.declared.raw.RawForm.{RawForm}
use Rattle.mir_parse.specs.declared.raw.RawInst.{RawInst}
use Rattle.mir_parse.specs.declared.raw.RawLabel.{RawLabel}
use Rattle.mir_parse.specs.declared.raw.Raw.{Raw}
use Rattle.mir_parse.specs.declared.raw.RawGlobal.{RawGlobal}
use Rattle.mir_parse.specs.RawParts.{globals_alone}
use Rattle.mir_parse.specs.RawUnit.{RawUnitShape}
use Rattle.mir_parse.specs.Spells.{Spells}
use Rattle.mir_parse.specs.Grammar.{symbols, Body, bare, label as with_label, inst as with_inst, IsUnit, IsText, no_unit, global_line, more}
use Rattle.mir_print.proofs.Pieces.{Piece, Blank, Shown, pieces_text, symbols_of, AreSpaced, on_line, Read, read_start, read_as, read_line}
use Rattle.mir_print.proofs.Raws.{raw_form, raw_insts, raw_label, raw_labels, unit_naming, raw_unit, raw_units, raw_globals}
use Rattle.mir_print.proofs.Lines.{first_symbol, rest_pieces, form_pieces, is_form_same, inst_text_is, FormFits, form_spaced}

-- ---- a line with its label

-- the text of a label that stands before a line, if one does
abbrev label_text : Bool → List ℕ → List ℕ
label_text b l = if b then l ++ codes ": " else []

-- and its symbols
abbrev label_symbols : Bool → List ℕ → List Symbol
label_symbols b l = if b then NAME l ∷ MARK Colon ∷ [] else []

-- a line, with a label where the first argument says so
line_read : (b : Bool) (l : List ℕ) (text front : List ℕ) (line : ℕ) (ts : List Terminal) (symbol : Symbol) (pieces : List Piece) (after : List ℕ) → Read text front line AfterLineEnd ts
    → text ≡ front ++ (((label_text b l ++ pieces_text (Shown symbol ∷ pieces)) ++ codes "\n") ++ after) → (b ≡ true → IsName l) → ((previous : Previous) → AreSpaced previous (Shown symbol ∷ pieces) (10 ∷ after))
    → Read text (front ++ ((label_text b l ++ pieces_text (Shown symbol ∷ pieces)) ++ codes "\n")) (line + 1) AfterLineEnd (ts ++ (on_line line (label_symbols b l) ++ on_line line (symbols_of (Shown symbol ∷ pieces) ++ NL ∷ [])))
line_read true l text front line ts symbol pieces after was split name spaced =
    let shown = pieces_text (Shown symbol ∷ pieces) in
    let labelled : List Piece = Shown (MARK Colon) ∷ Blank ∷ Shown symbol ∷ pieces in
    let same : l ++ (codes ": " ++ shown) ≡ (l ++ codes ": ") ++ shown = sym (append_assoc l (codes ": ") shown) in
    let us = ts ++ (on_line line (NAME l ∷ MARK Colon ∷ []) ++ on_line line (symbols_of (Shown symbol ∷ pieces) ++ NL ∷ [])) in
    read_as text (line + 1) AfterLineEnd (front ++ ((l ++ (codes ": " ++ shown)) ++ codes "\n")) (front ++ (((l ++ codes ": ") ++ shown) ++ codes "\n")) us us (ap (λ (t : List ℕ). front ++ (t ++ codes "\n")) same) refl
    (read_line text front line ts (NAME l) labelled after was (split ∙ ap (λ (t : List ℕ). front ++ ((t ++ codes "\n") ++ after)) (sym same)) (name refl, refl, (tt, refl, spaced AfterOther)))
line_read false l text front line ts symbol pieces after was split name spaced = read_line text front line ts symbol pieces after was split (spaced AfterLineEnd)

-- symbols that are put on a line are the same symbols
symbols_on_line : (line : ℕ) (ss : List Symbol) → symbols (on_line line ss) ≡ ss
symbols_on_line line [] = refl
symbols_on_line line (s ∷ ss) = ap (λ (more : List Symbol). s ∷ more) (symbols_on_line line ss)

-- ---- the body of a unit

-- a label in front of the next instruction is one more label of the body
body_label : (b : Bool) (l : List ℕ) (line place : ℕ) (ts : List Terminal) (labels : List RawLabel) (raws : List RawInst) → Body ts labels raws → length raws ≡ place
    → Body (ts ++ on_line line (label_symbols b l)) (labels ++ (if b then record { name = l; place = place; line = line } ∷ [] else [])) raws
body_label true l line place ts labels raws body many =
    with_label (record { name = l; place = place; line = line }) body (record { «break» = []; is_break = inl refl; are = record { spelled = refl; starts = refl } }) (sym many)
body_label false l line place ts labels raws body many =
    subst (λ (us : List Terminal). Body us (labels ++ []) raws) (sym (append-nil ts)) (subst (λ (ls : List RawLabel). Body ts ls raws) (sym (append-nil labels)) body)

-- the line of an instruction is one more instruction of the body
body_inst : (form : RawForm) (line : ℕ) (ts : List Terminal) (labels : List RawLabel) (raws : List RawInst) → Body ts labels raws
    → Body (ts ++ on_line line (symbols_of (form_pieces form) ++ NL ∷ [])) labels (raws ++ record { line = line; form = form } ∷ [])
body_inst form line ts labels raws body =
    with_inst (record { line = line; form = form }) body
    (record { form = symbols_of (form_pieces form); is_form = is_form_same form; are = record { spelled = symbols_on_line line (symbols_of (form_pieces form) ++ NL ∷ []); starts = refl } })

-- what is read up to the end of a unit, behind these terminals
record BodyRead (text front : List ℕ) (line : ℕ) (before : List Terminal) (labels : List RawLabel) (raws : List RawInst) : Type 0 where
  ts : List Terminal
  tail : List Terminal
  body : Body ts labels raws
  tail_is : symbols tail ≡ WORD EndWord ∷ NL ∷ []
  read : Read text front line AfterLineEnd (before ++ (ts ++ tail))

-- the same, written in another way
body_read_as : (text : List ℕ) (before : List Terminal) (front front' : List ℕ) (line line' : ℕ) (labels labels' : List RawLabel) (raws raws' : List RawInst) → front ≡ front' → line ≡ line' → labels ≡ labels' → raws ≡ raws'
    → BodyRead text front line before labels raws → BodyRead text front' line' before labels' raws'
body_read_as text before front front' line line' labels labels' raws raws' same_front same_line same_labels same_raws h =
    subst (λ (f : List ℕ). BodyRead text f line' before labels' raws') same_front
    (subst (λ (n : ℕ). BodyRead text front n before labels' raws') same_line
    (subst (λ (ls : List RawLabel). BodyRead text front line before ls raws') same_labels (subst (λ (rs : List RawInst). BodyRead text front line before labels rs) same_raws h)))

-- appended lists may be grouped in another way
regrouped : (before ts a b : List Terminal) → (before ++ ts) ++ (a ++ b) ≡ before ++ ((ts ++ a) ++ b)
regrouped before ts a b = simp append_assoc

module _ (naming : Naming) (text : List ℕ) (before : List Terminal) (named : (place : ℕ) → place ≤ length naming.body → IsName (label naming.body place)) where
  -- the text from an instruction to the end of the unit
  abbrev rest_text : ℕ → List Inst → ℕ → List ℕ
  rest_text place insts end = lines_text naming place insts ++ label_before naming.body end ++ codes "end\n"

  regroup : (front line lines rest after : List ℕ) → front ++ (((line ++ lines) ++ rest ++ codes "end\n") ++ after) ≡ front ++ (line ++ ((lines ++ rest ++ codes "end\n") ++ after))
  regroup front line lines rest after = simp append_assoc

  regroup_front : (front line lines rest : List ℕ) → (front ++ line) ++ (lines ++ rest ++ codes "end\n") ≡ front ++ ((line ++ lines) ++ rest ++ codes "end\n")
  regroup_front front line lines rest = simp append_assoc

  end_text : (b : List ℕ) → (b ++ pieces_text (Shown (WORD EndWord) ∷ [])) ++ codes "\n" ≡ [] ++ b ++ codes "end\n"
  end_text b = append_assoc b (codes "end") (codes "\n")

  end_read : (place line : ℕ) (front : List ℕ) (ts : List Terminal) (labels : List RawLabel) (raws : List RawInst) (after : List ℕ) → Read text front line AfterLineEnd (before ++ ts) → Body ts labels raws → length raws ≡ place
      → place ≤ length naming.body → text ≡ front ++ (rest_text place [] place ++ after) → BodyRead text (front ++ rest_text place [] place) (line + 1) before (labels ++ raw_label naming.body line place) raws
  end_read place line front ts labels raws after was body many within split =
      let b = is_target naming.body place in
      let l = label naming.body place in
      let written = end_text (label_text b l) in
      let a = on_line line (label_symbols b l) in
      let tail = on_line line (WORD EndWord ∷ NL ∷ []) in
      record {
        ts = ts ++ a;
        tail = tail;
        body = body_label b l line place ts labels raws body many;
        tail_is = refl;
        read =
            read_as text (line + 1) AfterLineEnd (front ++ ((label_text b l ++ pieces_text (Shown (WORD EndWord) ∷ [])) ++ codes "\n")) (front ++ rest_text place [] place) ((before ++ ts) ++ (a ++ tail)) (before ++ ((ts ++ a) ++ tail))
            (ap (λ (t : List ℕ). front ++ t) written) (regrouped before ts a tail)
            (line_read b l text front line (before ++ ts) (WORD EndWord) [] after was (split ∙ ap (λ (t : List ℕ). front ++ (t ++ after)) (sym written)) (λ _. named place within) (λ previous. (tt, refl, tt)));
      }

  rest_read : (insts : List Inst) (place line : ℕ) (front : List ℕ) (ts : List Terminal) (labels : List RawLabel) (raws : List RawInst) (after : List ℕ) (end : ℕ) → Read text front line AfterLineEnd (before ++ ts) → Body ts labels raws → length raws ≡ place
      → place + length insts ≡ end → end ≤ length naming.body → ((i : ℕ) (inst : Inst) → slice_get insts i ≡ Some inst → FormFits (raw_form naming inst)) → text ≡ front ++ (rest_text place insts end ++ after)
      → BodyRead text (front ++ rest_text place insts end) (line + length insts + 1) before (labels ++ raw_labels naming.body line place insts) (raws ++ raw_insts naming line insts)
  rest_read [] place line front ts labels raws after end was body many ends within fits split =
      let same : end ≡ place = omega (arith, ends) in
      let here = ap (λ (e : ℕ). front ++ rest_text place [] e) same in
      let low : place ≤ length naming.body = omega (arith, same, within) in
      body_read_as text before (front ++ rest_text place [] place) (front ++ rest_text place [] end) (line + 1) (line + 0 + 1) (labels ++ raw_label naming.body line place) (labels ++ raw_label naming.body line place) raws (raws ++ [])
      (sym here) (omega arith) refl (sym (append-nil raws))
      (end_read place line front ts labels raws after was body many low (split ∙ ap (λ (e : ℕ). front ++ (rest_text place [] e ++ after)) same))
  rest_read (inst ∷ insts) place line front ts labels raws after end was body many ends within fits split =
      let b = is_target naming.body place in
      let l = label naming.body place in
      let form = raw_form naming inst in
      let shown = (label_text b l ++ text_of_inst naming inst) ++ codes "\n" in
      let pieces = (label_text b l ++ pieces_text (form_pieces form)) ++ codes "\n" in
      let written : pieces ≡ shown = ap (λ (t : List ℕ). (label_text b l ++ t) ++ codes "\n") (inst_text_is naming inst) in
      let rest = rest_text (suc place) insts end in
      let cut : text ≡ front ++ (shown ++ (rest ++ after)) = split ∙ regroup front shown (lines_text naming (suc place) insts) (label_before naming.body end) after in
      let low : place ≤ length naming.body = omega (arith, ends, within) in
      let a = on_line line (label_symbols b l) in
      let c = on_line line (symbols_of (form_pieces form) ++ NL ∷ []) in
      let read = read_as text (line + 1) AfterLineEnd (front ++ pieces) (front ++ shown) ((before ++ ts) ++ (a ++ c)) (before ++ ((ts ++ a) ++ c)) (ap (λ (t : List ℕ). front ++ t) written) (regrouped before ts a c)
      (line_read b l text front line (before ++ ts) (first_symbol form) (rest_pieces form) (rest ++ after) was (cut ∙ ap (λ (t : List ℕ). front ++ (t ++ (rest ++ after))) (sym written)) (λ _. named place low)
      (λ previous. form_spaced previous form (rest ++ after) (fits 0 inst refl))) in
      let one : RawInst = record { line = line; form = form } in
      let labels' = labels ++ raw_label naming.body line place in
      body_read_as text before ((front ++ shown) ++ rest) (front ++ rest_text place (inst ∷ insts) end) (line + 1 + length insts + 1) (line + suc (length insts) + 1) (labels' ++ raw_labels naming.body (line + 1) (suc place) insts)
      (labels ++ raw_labels naming.body line place (inst ∷ insts)) ((raws ++ one ∷ []) ++ raw_insts naming (line + 1) insts) (raws ++ raw_insts naming line (inst ∷ insts))
      (regroup_front front shown (lines_text naming (suc place) insts) (label_before naming.body end)) (omega arith) (append_assoc labels (raw_label naming.body line place) (raw_labels naming.body (line + 1) (suc place) insts))
      (append_assoc raws (one ∷ []) (raw_insts naming (line + 1) insts))
      (rest_read insts (suc place) (line + 1) (front ++ shown) ((ts ++ a) ++ c) labels' (raws ++ one ∷ []) after end read (body_inst form line (ts ++ a) labels' raws (body_label b l line place ts labels raws body many))
      (let more = length_push raws one in omega (arith, more, many)) (omega (arith, ends)) within (λ i other at. fits (suc i) other at) (cut ∙ sym (append_assoc front shown (rest ++ after))))

-- ---- units

-- what is read up to the end of a unit, behind these terminals
record UnitRead (text front : List ℕ) (line : ℕ) (before : List Terminal) (unit : RawUnitShape) : Type 0 where
  ts : List Terminal
  is : IsUnit ts unit
  read : Read text front line AfterLineEnd (before ++ ts)

-- the names and numbers of a unit are spelled as such
pub record UnitSpelled (units : List (List ℕ)) (unit : UnitShape) : Type 0 where
  pub name : IsName unit.name
  pub labels : (place : ℕ) → place ≤ length unit.body → IsName (label unit.body place)
  pub forms : (i : ℕ) (inst : Inst) → slice_get unit.body i ≡ Some inst → FormFits (raw_form (unit_naming units unit) inst)

-- the text of a unit is read as that unit, and the line counted as one past its end
unit_read : (units : List (List ℕ)) (unit : UnitShape) (text front : List ℕ) (line : ℕ) (before : List Terminal) (after : List ℕ) → UnitSpelled units unit → Read text front line AfterLineEnd before → text ≡ front ++ (unit_text units unit ++ after)
    → UnitRead text (front ++ unit_text units unit) (line + 1 + length unit.body + 1) before (raw_unit units line unit)
unit_read units unit text front line before after spelled was split =
    let naming = unit_naming units unit in
    let pieces : List Piece = Shown (MARK Colon) ∷ Blank ∷ Shown (WORD BeginWord) ∷ [] in
    let head = pieces_text (Shown (NAME unit.name) ∷ pieces) ++ codes "\n" in
    let rest = lines_text naming 0 unit.body ++ label_before unit.body (length unit.body) ++ codes "end\n" in
    let written : head ++ rest ≡ unit_text units unit =
    ap (λ (t : List ℕ). t ++ rest) (append_assoc unit.name (codes ": begin") (codes "\n")) ∙ whole (unit.name ++ codes ": begin\n") (lines_text naming 0 unit.body) (label_before unit.body (length unit.body)) (codes "end\n") in
    let cut : text ≡ front ++ (head ++ (rest ++ after)) = split ∙ ap (λ (t : List ℕ). front ++ (t ++ after)) (sym written) ∙ ap (λ (t : List ℕ). front ++ t) (append_assoc head rest after) in
    let h = on_line line (NAME unit.name ∷ MARK Colon ∷ WORD BeginWord ∷ NL ∷ []) in
    let begun = read_line text front line before (NAME unit.name) pieces (rest ++ after) was cut (spelled.name, refl, (tt, refl, (tt, refl, tt))) in
    let body = rest_read naming text (before ++ h) spelled.labels unit.body 0 (line + 1) (front ++ head) [] [] [] after (length unit.body)
    (read_as text (line + 1) AfterLineEnd (front ++ head) (front ++ head) (before ++ h) ((before ++ h) ++ []) refl (sym (append-nil (before ++ h))) begun) bare refl (omega arith) (omega arith) spelled.forms
    (cut ∙ sym (append_assoc front head (rest ++ after))) in
    record {
      ts = h ++ body.ts ++ body.tail;
      is = record {
        head = h;
        body = body.ts;
        tail = body.tail;
        is_head = record { «break» = []; is_break = inl refl; are = record { spelled = refl; starts = refl } };
        is_body = body.body;
        is_tail = body.tail_is;
        text = refl;
      };
      read =
          read_as text (line + 1 + length unit.body + 1) AfterLineEnd ((front ++ head) ++ rest) (front ++ unit_text units unit) ((before ++ h) ++ (body.ts ++ body.tail)) (before ++ (h ++ body.ts ++ body.tail))
          (append_assoc front head rest ∙ ap (λ (t : List ℕ). front ++ t) written) (regrouped before h body.ts body.tail) body.read;
    }
  where
    whole : (head lines label close : List ℕ) → head ++ (lines ++ label ++ close) ≡ head ++ lines ++ (label ++ close)
    whole head lines label close = simp append_assoc

-- ---- programs

-- what is read up to the end of the text, or of some of its global lines and units
pub record TextRead (text front : List ℕ) (raw : Raw) : Type 0 where
  pub line : ℕ
  pub ts : List Terminal
  pub is : IsText ts raw
  pub read : Read text front line AfterLineEnd ts

-- the same, written in another way
text_read_as : (text front front' : List ℕ) (raw raw' : Raw) → front ≡ front' → raw ≡ raw' → TextRead text front raw → TextRead text front' raw'
text_read_as text front front' raw raw' same_front same_raw h = subst (λ (f : List ℕ). TextRead text f raw') same_front (subst (λ (r : Raw). TextRead text front r) same_raw h)

-- the texts of units, one behind the other, are read as those units
units_read : (globals : List RawGlobal) (names : List (List ℕ)) (units : List UnitShape) (text front : List ℕ) (line : ℕ) (ts : List Terminal) (raws : List RawUnitShape) (after : List ℕ)
    → ((i : ℕ) (unit : UnitShape) → slice_get units i ≡ Some unit → UnitSpelled names unit) → Read text front line AfterLineEnd ts → IsText ts (record { globals = globals; units = raws })
    → text ≡ front ++ (flat_map (unit_text names) units ++ after) → TextRead text (front ++ flat_map (unit_text names) units) (record { globals = globals; units = raws ++ raw_units names line units })
units_read globals names [] text front line ts raws after spelled was is split =
    text_read_as text front (front ++ []) (record { globals = globals; units = raws }) (record { globals = globals; units = raws ++ [] }) (sym (append-nil front))
    (ap (λ (rs : List RawUnitShape). record { globals = globals; units = rs }) (sym (append-nil raws))) (record { line = line; ts = ts; is = is; read = was })
units_read globals names (unit ∷ units) text front line ts raws after spelled was is split =
    let here = unit_text names unit in
    let more_text = flat_map (unit_text names) units in
    let cut : text ≡ front ++ (here ++ (more_text ++ after)) = split ∙ ap (λ (t : List ℕ). front ++ t) (append_assoc here more_text after) in
    let one = unit_read names unit text front line ts (more_text ++ after) (spelled 0 unit refl) was cut in
    let raw = raw_unit names line unit in
    let next = line + 1 + length unit.body + 1 in
    let all = units_read globals names units text (front ++ here) next (ts ++ one.ts) (raws ++ raw ∷ []) after (λ i other at. spelled (suc i) other at) one.read (more raw is one.is) (cut ∙ sym (append_assoc front here (more_text ++ after))) in
    text_read_as text ((front ++ here) ++ more_text) (front ++ (here ++ more_text)) (record { globals = globals; units = (raws ++ raw ∷ []) ++ raw_units names next units }) (record { globals = globals; units = raws ++ raw ∷ raw_units names next units })
    (append_assoc front here more_text) (ap (λ (rs : List RawUnitShape). record { globals = globals; units = rs }) (append_assoc raws (raw ∷ []) (raw_units names next units))) all

-- ---- globals

-- what is read up to the end of the global lines, of which the last stands before this line
record GlobalsRead (text front : List ℕ) (line : ℕ) (globals : List RawGlobal) : Type 0 where
  ts : List Terminal
  is : IsText ts (globals_alone globals)
  read : Read text front line AfterLineEnd ts

-- the same, written in another way
globals_read_as : (text front front' : List ℕ) (line line' : ℕ) (globals globals' : List RawGlobal) → front ≡ front' → line ≡ line' → globals ≡ globals' → GlobalsRead text front line globals → GlobalsRead text front' line' globals'
globals_read_as text front front' line line' globals globals' same_front same_line same_globals h =
    subst (λ (f : List ℕ). GlobalsRead text f line' globals') same_front
    (subst (λ (n : ℕ). GlobalsRead text front n globals') same_line (subst (λ (gs : List RawGlobal). GlobalsRead text front line gs) same_globals h))

-- the lines of globals, one behind the other, are read as those globals
globals_read : (names : List (List ℕ)) (text front : List ℕ) (line : ℕ) (ts : List Terminal) (raws : List RawGlobal) (after : List ℕ) → ((i : ℕ) (name : List ℕ) → slice_get names i ≡ Some name → IsName name)
    → Read text front line AfterLineEnd ts → IsText ts (globals_alone raws) → text ≡ front ++ (flat_map global_text names ++ after)
    → GlobalsRead text (front ++ flat_map global_text names) (line + length names) (raws ++ raw_globals line names)
globals_read [] text front line ts raws after spelled was is split =
    globals_read_as text front (front ++ []) line (line + 0) raws (raws ++ []) (sym (append-nil front)) (omega arith) (sym (append-nil raws)) (record { ts = ts; is = is; read = was })
globals_read (name ∷ names) text front line ts raws after spelled was is split =
    let pieces : List Piece = Blank ∷ Shown (NAME name) ∷ [] in
    let shown = pieces_text (Shown (WORD GlobalWord) ∷ pieces) ++ codes "\n" in
    let more_text = flat_map global_text names in
    let written : shown ≡ global_text name = ap (λ (t : List ℕ). codes "global " ++ (t ++ codes "\n")) (append-nil name) in
    let cut : text ≡ front ++ (shown ++ (more_text ++ after)) = split ∙ ap (λ (t : List ℕ). front ++ t) (append_assoc (global_text name) more_text after) ∙ ap (λ (t : List ℕ). front ++ (t ++ (more_text ++ after))) (sym written) in
    let one = read_line text front line ts (WORD GlobalWord) pieces (more_text ++ after) was cut (tt, refl, (spelled 0 name refl, refl, tt)) in
    let g : RawGlobal = record { name = name; line = line } in
    let own = on_line line (WORD GlobalWord ∷ NAME name ∷ NL ∷ []) in
    let longer : IsText (ts ++ own) (globals_alone (raws ++ g ∷ [])) = global_line g is (record { spelled = refl; starts = refl }) in
    let rest = globals_read names text (front ++ shown) (line + 1) (ts ++ own) (raws ++ g ∷ []) after (λ i other at. spelled (suc i) other at) one longer (cut ∙ sym (append_assoc front shown (more_text ++ after))) in
    globals_read_as text ((front ++ shown) ++ more_text) (front ++ (global_text name ++ more_text)) (line + 1 + length names) (line + suc (length names)) ((raws ++ g ∷ []) ++ raw_globals (line + 1) names) (raws ++ g ∷ raw_globals (line + 1) names)
    (append_assoc front shown more_text ∙ ap (λ (t : List ℕ). front ++ (t ++ more_text)) written) (omega arith) (append_assoc raws (g ∷ []) (raw_globals (line + 1) names)) rest

-- ---- programs

-- the line of the first unit
abbrev pub first_line : ProgramShape → ℕ
first_line program = 1 + length program.globals

-- the raw program that the canonical text spells
abbrev pub raw_of : ProgramShape → Raw
raw_of program = record {
  globals = raw_globals 1 program.globals;
  units = raw_units (map (λ (unit : UnitShape). unit.name) program.units) (first_line program) program.units;
}

-- the canonical text spells the raw program
pub text_spells : (program : ProgramShape) → ((i : ℕ) (name : List ℕ) → slice_get program.globals i ≡ Some name → IsName name)
    → ((i : ℕ) (unit : UnitShape) → slice_get program.units i ≡ Some unit → UnitSpelled (map (λ (unit : UnitShape). unit.name) program.units) unit) → Spells (canonical_text program) (raw_of program)
text_spells program named spelled =
    let text = canonical_text program in
    let names = map (λ (unit : UnitShape). unit.name) program.units in
    let lines = flat_map global_text program.globals in
    let front = globals_read program.globals text [] 1 [] [] (flat_map (unit_text names) program.units) named (read_start text) no_unit refl in
    let all = units_read (raw_globals 1 program.globals) names program.units text lines (first_line program) front.ts [] [] spelled front.read front.is (ap (λ (t : List ℕ). lines ++ t) (sym (append-nil (flat_map (unit_text names) program.units)))) in
    record {
      items = all.read.items;
      tokens = record { before = all.read.items; previous = AfterLineEnd; spelled = all.read.spelled; items_are = refl };
      text = subst (λ (ts : List Terminal). IsText ts (raw_of program)) (sym all.read.tokens) all.is;
    }
