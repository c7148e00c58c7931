-- What the reader has read: a text, or a prefix of one.
use Rattle.std.proofs.Common.{◌≡◌, ℕ, Bool, true, false, List, [], ◌∷◌, ◌++◌, length, Option, None, Some, refl, sym, ◌∙◌, ap, subst, append_assoc, append-nil, inl, inr}
use Rattle.std.specs.List.{fold}
use Rattle.mir_lex.specs.declared.terminals.Symbol.{Symbol}
use Rattle.mir_lex.specs.declared.terminals.Symbol.TheVariants.{Name as NAME, Word as WORD, Mark as MARK, LineEnd as NL}
use Rattle.mir_lex.specs.declared.terminals.Terminal.{Terminal}
use Rattle.mir_lex.specs.declared.words.Mark.TheVariants.{Colon}
use Rattle.mir_base.specs.declared.words.Word.TheVariants.{Begin as BeginWord, End as EndWord, Global as GlobalWord}
use Rattle.mir_parse.specs.declared.raw.RawForm.{RawForm}
use Rattle.mir_parse.specs.declared.raw.RawInst.{RawInst}
use Rattle.mir_parse.specs.declared.raw.RawLabel.{RawLabel}
use Rattle.mir_parse.specs.declared.raw.RawGlobal.{RawGlobal}
use Rattle.mir_parse.specs.declared.raw.Raw.{Raw}
use Rattle.mir_parse.specs.RawParts.{globals_alone}
use Rattle.mir_parse.specs.RawUnit.{RawUnitShape}
use Rattle.mir_parse.specs.declared.so_far.Part.{Part}
use Rattle.mir_parse.specs.Reader.{Next, No, Go, Done, Label}
use Rattle.mir_parse.specs.declared.so_far.Spot.{Spot}
use Rattle.mir_parse.specs.declared.so_far.Spot.TheVariants.{Named as UnitNamed, Headed, Begun, Inside, Mid, AfterEnd}
use Rattle.mir_parse.specs.declared.so_far.Reading.{Reading}
use Rattle.mir_parse.specs.declared.so_far.ReadSoFar.{ReadSoFar}
use Rattle.mir_parse.specs.declared.so_far.ReadSoFar.TheVariants.{Outside, Global as InGlobal, In, Stopped}
use Rattle.mir_parse.specs.Grammar.{symbols, StartsAt, Are, IsBreak, Body, IsHead, IsText, bare, label, inst, no_unit, global_line, more}
use Rattle.mir_parse.specs.Reader.{fresh, part_step, begin_unit, with_inst, with_label, reading_after, global_word, outside, in_global, unit_named, headed, begun, inside, after_end, spot_step, read_step, reads}
use Rattle.mir_parse.proofs.PartSound.{Read, KeepsSymbols, fresh_keeps, part_keeps}

-- no label and no instruction yet
abbrev pub Empty : Reading → Type 0
Empty b = (b.unit.labels ≡ []) × (b.unit.body ≡ [])

-- what a unit has read, from its name on
pub record HeadOf (b : Reading) (end : List Symbol) (own : List Terminal) : Type 0 where
  pub are : Are own b.unit.line (NAME b.unit.name ∷ MARK Colon ∷ end)
  pub empty : Empty b

-- the tokens of a unit up to some of its labels and instructions
pub record InRows (b : Reading) (own : List Terminal) : Type 0 where
  pub head : List Terminal
  pub rows : List Terminal
  pub is_head : IsHead head b.unit.name b.unit.line
  pub are_rows : Body rows b.unit.labels b.unit.body
  pub text : own ≡ head ++ rows

-- the last token is the colon of a label
pub record AtColon (b : Reading) (own : List Terminal) : Type 0 where
  pub head : List Terminal
  pub rows : List Terminal
  pub us : List Terminal
  pub last : RawLabel
  pub labels : List RawLabel
  pub is_head : IsHead head b.unit.name b.unit.line
  pub are_rows : Body rows labels b.unit.body
  pub labels_are : b.unit.labels ≡ labels ++ last ∷ []
  pub at : last.place ≡ length b.unit.body
  pub are : Are us last.line (NAME last.name ∷ MARK Colon ∷ [])
  pub text : own ≡ head ++ (rows ++ us)

-- the tokens of a unit up to a part of an instruction that began on this line
pub record InPart (b : Reading) (line : ℕ) (p : Part) (own : List Terminal) : Type 0 where
  pub head : List Terminal
  pub rows : List Terminal
  pub us : List Terminal
  pub ss : List Symbol
  pub is_head : IsHead head b.unit.name b.unit.line
  pub are_rows : Body rows b.unit.labels b.unit.body
  pub are : Are us line ss
  pub read : Read p ss
  pub text : own ≡ head ++ (rows ++ us)

-- the tokens of a unit up to its `end`
pub record AtEnd (b : Reading) (own : List Terminal) : Type 0 where
  pub head : List Terminal
  pub rows : List Terminal
  pub tail : List Terminal
  pub is_head : IsHead head b.unit.name b.unit.line
  pub are_rows : Body rows b.unit.labels b.unit.body
  pub is_tail : symbols tail ≡ WORD EndWord ∷ []
  pub text : own ≡ head ++ (rows ++ tail)

-- the tokens of a unit up to this place in it
abbrev pub At : Reading → Spot → List Terminal → Type 0
At b UnitNamed own = Are own b.unit.line (NAME b.unit.name ∷ []) × Empty b
At b (Headed true) own = HeadOf b [] own
At b (Headed false) own = HeadOf b (NL ∷ []) own
At b Begun own = (brk : List Symbol) × IsBreak brk × HeadOf b (brk ++ WORD BeginWord ∷ []) own
At b (Inside false) own = InRows b own
At b (Inside true) own = AtColon b own
At b (Mid line p) own = InPart b line p own
At b AfterEnd own = AtEnd b own

-- the tokens are those of whole units, and those of one up to this place
pub record InUnit (b : Reading) (spot : Spot) (ts : List Terminal) : Type 0 where
  pub before : List Terminal
  pub own : List Terminal
  pub text : IsText before b.whole
  pub is : ts ≡ before ++ own
  pub at : At b spot own

-- the symbols of a global line up to its name, or with it
abbrev pub global_symbols : Option (List ℕ) → List Symbol
global_symbols None = WORD GlobalWord ∷ []
global_symbols (Some x) = WORD GlobalWord ∷ NAME x ∷ []

-- the tokens are those of whole global lines, and those of one up to its name, or with it
pub record InLine (globals : List RawGlobal) (line : ℕ) (name : Option (List ℕ)) (ts : List Terminal) : Type 0 where
  pub before : List Terminal
  pub own : List Terminal
  pub text : IsText before (globals_alone globals)
  pub is : ts ≡ before ++ own
  pub are : Are own line (global_symbols name)

-- what the state has read
abbrev pub IsReadFrom : ReadSoFar → List Terminal → Type 0
IsReadFrom (Outside raw) ts = IsText ts raw
IsReadFrom (InGlobal globals line name) ts = InLine globals line name ts
IsReadFrom (In b spot) ts = InUnit b spot ts
IsReadFrom (Stopped line) ts = Unit {0}

-- the token of this symbol on this line
abbrev token : Symbol → ℕ → Terminal
token s at = record { symbol = s; line = at }

-- the symbols of joined tokens are their symbols joined
symbols_append : (ts us : List Terminal) → symbols (ts ++ us) ≡ symbols ts ++ symbols us
symbols_append [] us = refl
symbols_append (t ∷ ts) us = ap (λ (l : List Symbol). t.symbol ∷ l) (symbols_append ts us)

-- tokens begin on the same line whatever follows
starts_append : (ts us : List Terminal) (line : ℕ) → StartsAt ts line → StartsAt (ts ++ us) line
starts_append [] us line h = absurd h
starts_append (t ∷ ts) us line h = h

-- a row of tokens with one more
are_on : (ts : List Terminal) (line : ℕ) (ss : List Symbol) (s : Symbol) (at : ℕ) → Are ts line ss → Are (ts ++ token s at ∷ []) line (ss ++ s ∷ [])
are_on ts line ss s at h = record {
  spelled = symbols_append ts (token s at ∷ []) ∙ ap (λ (l : List Symbol). l ++ s ∷ []) h.spelled;
  starts = starts_append ts (token s at ∷ []) line h.starts;
}

-- a row whose symbols were written in another way
are_as : (ts : List Terminal) (line : ℕ) (ss rr : List Symbol) → Are ts line ss → ss ≡ rr → Are ts line rr
are_as ts line ss rr h e = record { spelled = h.spelled ∙ e; starts = h.starts }

-- the tokens of a unit after its head and rows, with one more
own_on : (own head rows us vs : List Terminal) → own ≡ head ++ (rows ++ us) → own ++ vs ≡ head ++ (rows ++ (us ++ vs))
own_on own head rows us vs h =
    ap (λ (l : List Terminal). l ++ vs) h ∙ append_assoc head (rows ++ us) vs ∙ ap (λ (l : List Terminal). head ++ l) (append_assoc rows us vs)

-- the units before, joined with what was read of this one
in_unit : (b : Reading) (spot : Spot) (before own : List Terminal) → IsText before b.whole → At b spot own → InUnit b spot (before ++ own)
in_unit b spot before own text at = record { before = before; own = own; text = text; is = refl; at = at }

-- the rows up to the colon, the colon's label among them
rows_of_colon : (b : Reading) (own : List Terminal) → AtColon b own → InRows b own
rows_of_colon b own h = record {
  head = h.head;
  rows = h.rows ++ h.us;
  is_head = h.is_head;
  are_rows = subst (λ (l : List RawLabel). Body (h.rows ++ h.us) l b.unit.body) (sym h.labels_are) (label h.last h.are_rows (record { «break» = []; is_break = inl refl; are = h.are }) h.at);
  text = h.text;
}

-- a token moves the part of an instruction on
part_goes : (b : Reading) (line : ℕ) (p q : Part) (s : Symbol) (at : ℕ) (own : List Terminal) → (h : InPart b line p own) → Read q (h.ss ++ s ∷ []) → InPart b line q (own ++ token s at ∷ [])
part_goes b line p q s at own h read = record {
  head = h.head;
  rows = h.rows;
  us = h.us ++ token s at ∷ [];
  ss = h.ss ++ s ∷ [];
  is_head = h.is_head;
  are_rows = h.are_rows;
  are = are_on h.us line h.ss s at h.are;
  read = read;
  text = own_on own h.head h.rows h.us (token s at ∷ []) h.text;
}

-- a token ends an instruction: it joins the rows
part_done : (b : Reading) (line : ℕ) (p : Part) (form : RawForm) (s : Symbol) (at : ℕ) (own : List Terminal) → (h : InPart b line p own) → KeepsSymbols (Done form) (h.ss ++ s ∷ []) → InRows (with_inst b line form) (own ++ token s at ∷ [])
part_done b line p form s at own h keeps = record {
  head = h.head;
  rows = h.rows ++ (h.us ++ token s at ∷ []);
  is_head = h.is_head;
  are_rows = inst (record { line = line; form = form }) h.are_rows (record { form = keeps.0; is_form = keeps.1; are = are_as (h.us ++ token s at ∷ []) line (h.ss ++ s ∷ []) (keeps.0 ++ NL ∷ []) (are_on h.us line h.ss s at h.are) keeps.2 });
  text = own_on own h.head h.rows h.us (token s at ∷ []) h.text;
}

-- the colon makes the name a label: the rows end with it
part_label : (b : Reading) (line : ℕ) (p : Part) (name : List ℕ) (s : Symbol) (at : ℕ) (own : List Terminal) → (h : InPart b line p own) → KeepsSymbols (Label name) (h.ss ++ s ∷ []) → AtColon (with_label b line name) (own ++ token s at ∷ [])
part_label b line p name s at own h keeps = record {
  head = h.head;
  rows = h.rows;
  us = h.us ++ token s at ∷ [];
  last = record { name = name; place = length b.unit.body; line = line };
  labels = b.unit.labels;
  is_head = h.is_head;
  are_rows = h.are_rows;
  labels_are = refl;
  at = refl;
  are = are_as (h.us ++ token s at ∷ []) line (h.ss ++ s ∷ []) (NAME name ∷ MARK Colon ∷ []) (are_on h.us line h.ss s at h.are) keeps;
  text = own_on own h.head h.rows h.us (token s at ∷ []) h.text;
}

-- each of the three ways, and none is claimed where the token is refused
after_keeps : (b : Reading) (line : ℕ) (p : Part) (n : Next) (s : Symbol) (at : ℕ) (before own : List Terminal) → IsText before b.whole → (h : InPart b line p own) → KeepsSymbols n (h.ss ++ s ∷ []) → IsReadFrom (reading_after b line at n) (before ++ (own ++ token s at ∷ []))
after_keeps b line p No s at before own text h keeps = tt
after_keeps b line p (Go q) s at before own text h keeps = in_unit b (Mid line q) before (own ++ token s at ∷ []) text (part_goes b line p q s at own h keeps)
after_keeps b line p (Done form) s at before own text h keeps = in_unit (with_inst b line form) (Inside false) before (own ++ token s at ∷ []) text (part_done b line p form s at own h keeps)
after_keeps b line p (Label name) s at before own text h keeps = in_unit (with_label b line name) (Inside true) before (own ++ token s at ∷ []) text (part_label b line p name s at own h keeps)

-- the first token of an instruction
first_keeps : (b : Reading) (n : Next) (s : Symbol) (at : ℕ) (before own : List Terminal) → IsText before b.whole → InRows b own → KeepsSymbols n (s ∷ []) → IsReadFrom (reading_after b at at n) (before ++ (own ++ token s at ∷ []))
first_keeps b No s at before own text h keeps = tt
first_keeps b (Go q) s at before own text h keeps = in_unit b (Mid at q) before (own ++ token s at ∷ []) text (record {
  head = h.head;
  rows = h.rows;
  us = token s at ∷ [];
  ss = s ∷ [];
  is_head = h.is_head;
  are_rows = h.are_rows;
  are = record { spelled = refl; starts = refl };
  read = keeps;
  text = ap (λ (l : List Terminal). l ++ token s at ∷ []) h.text ∙ append_assoc h.head h.rows (token s at ∷ []);
})
first_keeps b (Done form) s at before own text h keeps = in_unit (with_inst b at form) (Inside false) before (own ++ token s at ∷ []) text (record {
  head = h.head;
  rows = h.rows ++ token s at ∷ [];
  is_head = h.is_head;
  are_rows = inst (record { line = at; form = form }) h.are_rows (record { form = keeps.0; is_form = keeps.1; are = record { spelled = keeps.2; starts = refl } });
  text = ap (λ (l : List Terminal). l ++ token s at ∷ []) h.text ∙ append_assoc h.head h.rows (token s at ∷ []);
})
first_keeps b (Label name) s at before own text h keeps = absurd (cc)

-- `end` after the rows
end_of_rows : (b : Reading) (at : ℕ) (own : List Terminal) → InRows b own → AtEnd b (own ++ token (WORD EndWord) at ∷ [])
end_of_rows b at own h = record {
  head = h.head;
  rows = h.rows;
  tail = token (WORD EndWord) at ∷ [];
  is_head = h.is_head;
  are_rows = h.are_rows;
  is_tail = refl;
  text = ap (λ (l : List Terminal). l ++ token (WORD EndWord) at ∷ []) h.text ∙ append_assoc h.head h.rows (token (WORD EndWord) at ∷ []);
}

-- a label may be the last row
rows_of : (b : Reading) (colon : Bool) (own : List Terminal) → At b (Inside colon) own → InRows b own
rows_of b true own h = rows_of_colon b own h
rows_of b false own h = h

-- a line end after the colon of a label
broken : (b : Reading) (at : ℕ) (own : List Terminal) → AtColon b own → InRows b (own ++ token NL at ∷ [])
broken b at own h = record {
  head = h.head;
  rows = h.rows ++ (h.us ++ token NL at ∷ []);
  is_head = h.is_head;
  are_rows = subst (λ (l : List RawLabel). Body (h.rows ++ (h.us ++ token NL at ∷ [])) l b.unit.body) (sym h.labels_are)
      (label h.last h.are_rows (record { «break» = NL ∷ []; is_break = inr refl; are = are_on h.us h.last.line (NAME h.last.name ∷ MARK Colon ∷ []) NL at h.are }) h.at);
  text = own_on own h.head h.rows h.us (token NL at ∷ []) h.text;
}

-- the state that follows a symbol says what was read: between two instructions
inside_keeps : (b : Reading) (colon : Bool) (s : Symbol) (at : ℕ) (before own : List Terminal) → IsText before b.whole → At b (Inside colon) own → IsReadFrom (inside b colon s at) (before ++ (own ++ token s at ∷ []))
inside_keeps b colon (WORD EndWord) at before own text h = in_unit b AfterEnd before (own ++ token (WORD EndWord) at ∷ []) text (end_of_rows b at own (rows_of b colon own h))
inside_keeps b true NL at before own text h = in_unit b (Inside false) before (own ++ token NL at ∷ []) text (broken b at own h)
inside_keeps b colon s at before own text h = first_keeps b (fresh s) s at before own text (rows_of b colon own h) (fresh_keeps s)

-- after `global`
global_word_keeps : (globals : List RawGlobal) (units : List RawUnitShape) (at : ℕ) (before : List Terminal) → IsText before (record { globals = globals; units = units }) → IsReadFrom (global_word globals units at) (before ++ token (WORD GlobalWord) at ∷ [])
global_word_keeps globals [] at before text = record { before = before; own = token (WORD GlobalWord) at ∷ []; text = text; is = refl; are = record { spelled = refl; starts = refl } }
global_word_keeps globals (unit ∷ units) at before text = tt

-- outside units and global lines
outside_keeps : (raw : Raw) (s : Symbol) (at : ℕ) (before : List Terminal) → IsText before raw → IsReadFrom (outside raw s at) (before ++ token s at ∷ [])
outside_keeps raw (NAME x) at before text = in_unit (begin_unit raw x at) UnitNamed before (token (NAME x) at ∷ []) text (record { spelled = refl; starts = refl }, (refl, refl))
outside_keeps raw (WORD GlobalWord) at before text = global_word_keeps raw.globals raw.units at before text
outside_keeps raw s at before text = tt

-- in a global line
in_global_keeps : (globals : List RawGlobal) (line : ℕ) (name : Option (List ℕ)) (s : Symbol) (at : ℕ) (ts : List Terminal) → InLine globals line name ts → IsReadFrom (in_global globals line name s at) (ts ++ token s at ∷ [])
in_global_keeps globals line None (NAME x) at ts h = record {
  before = h.before;
  own = h.own ++ token (NAME x) at ∷ [];
  text = h.text;
  is = ap (λ (l : List Terminal). l ++ token (NAME x) at ∷ []) h.is ∙ append_assoc h.before h.own (token (NAME x) at ∷ []);
  are = are_on h.own line (WORD GlobalWord ∷ []) (NAME x) at h.are;
}
in_global_keeps globals line (Some x) NL at ts h =
    subst (λ (l : List Terminal). IsText l (globals_alone (globals ++ record { name = x; line = line } ∷ [])))
    (sym (ap (λ (l : List Terminal). l ++ token NL at ∷ []) h.is ∙ append_assoc h.before h.own (token NL at ∷ [])))
    (global_line (record { name = x; line = line }) h.text (are_on h.own line (WORD GlobalWord ∷ NAME x ∷ []) NL at h.are))
in_global_keeps globals line name s at ts h = tt

-- after the name of a unit
unit_named_keeps : (b : Reading) (s : Symbol) (at : ℕ) (before own : List Terminal) → IsText before b.whole → At b UnitNamed own → IsReadFrom (unit_named b s at) (before ++ (own ++ token s at ∷ []))
unit_named_keeps b (MARK Colon) at before own text h = in_unit b (Headed true) before (own ++ token (MARK Colon) at ∷ []) text (record { are = are_on own b.unit.line (NAME b.unit.name ∷ []) (MARK Colon) at h.0; empty = h.1 })
unit_named_keeps b s at before own text h = tt

-- after its colon
headed_keeps : (b : Reading) (colon : Bool) (s : Symbol) (at : ℕ) (before own : List Terminal) → IsText before b.whole → At b (Headed colon) own → IsReadFrom (headed b colon s at) (before ++ (own ++ token s at ∷ []))
headed_keeps b true (WORD BeginWord) at before own text h = in_unit b Begun before (own ++ token (WORD BeginWord) at ∷ []) text ([], inl refl, record { are = are_on own b.unit.line (NAME b.unit.name ∷ MARK Colon ∷ []) (WORD BeginWord) at h.are; empty = h.empty })
headed_keeps b false (WORD BeginWord) at before own text h = in_unit b Begun before (own ++ token (WORD BeginWord) at ∷ []) text (NL ∷ [], inr refl, record { are = are_on own b.unit.line (NAME b.unit.name ∷ MARK Colon ∷ NL ∷ []) (WORD BeginWord) at h.are; empty = h.empty })
headed_keeps b true NL at before own text h = in_unit b (Headed false) before (own ++ token NL at ∷ []) text (record { are = are_on own b.unit.line (NAME b.unit.name ∷ MARK Colon ∷ []) NL at h.are; empty = h.empty })
headed_keeps b colon s at before own text h = tt

-- after `begin`
begun_keeps : (b : Reading) (s : Symbol) (at : ℕ) (before own : List Terminal) → IsText before b.whole → At b Begun own → IsReadFrom (begun b s at) (before ++ (own ++ token s at ∷ []))
begun_keeps b NL at before own text h = in_unit b (Inside false) before (own ++ token NL at ∷ []) text (record {
  head = own ++ token NL at ∷ [];
  rows = [];
  is_head = record {
    «break» = h.0;
    is_break = h.1;
    are = are_as (own ++ token NL at ∷ []) b.unit.line (NAME b.unit.name ∷ MARK Colon ∷ ((h.0 ++ WORD BeginWord ∷ []) ++ NL ∷ [])) (NAME b.unit.name ∷ MARK Colon ∷ (h.0 ++ WORD BeginWord ∷ NL ∷ []))
        (are_on own b.unit.line (NAME b.unit.name ∷ MARK Colon ∷ (h.0 ++ WORD BeginWord ∷ [])) NL at h.2.are)
        (ap (λ (l : List Symbol). NAME b.unit.name ∷ MARK Colon ∷ l) (append_assoc h.0 (WORD BeginWord ∷ []) (NL ∷ [])));
  };
  are_rows = subst (λ (l : List RawLabel). Body [] l b.unit.body) (sym h.2.empty.0) (subst (λ (l : List RawInst). Body [] [] l) (sym h.2.empty.1) bare);
  text = sym (append-nil (own ++ token NL at ∷ []));
})
begun_keeps b s at before own text h = tt

-- after `end`
after_end_keeps : (b : Reading) (s : Symbol) (at : ℕ) (before own : List Terminal) → IsText before b.whole → At b AfterEnd own → IsReadFrom (after_end b s at) (before ++ (own ++ token s at ∷ []))
after_end_keeps b NL at before own text h = more b.unit text (record {
  head = h.head;
  body = h.rows;
  tail = h.tail ++ token NL at ∷ [];
  is_head = h.is_head;
  is_body = h.are_rows;
  is_tail = symbols_append h.tail (token NL at ∷ []) ∙ ap (λ (l : List Symbol). l ++ NL ∷ []) h.is_tail;
  text = own_on own h.head h.rows h.tail (token NL at ∷ []) h.text ∙ sym (append_assoc h.head h.rows (h.tail ++ token NL at ∷ []));
})
after_end_keeps b s at before own text h = tt

-- at each place in a unit
spot_keeps : (b : Reading) (spot : Spot) (s : Symbol) (at : ℕ) (before own : List Terminal) → IsText before b.whole → At b spot own → IsReadFrom (spot_step b spot s at) (before ++ (own ++ token s at ∷ []))
spot_keeps b UnitNamed s at before own text h = unit_named_keeps b s at before own text h
spot_keeps b (Headed colon) s at before own text h = headed_keeps b colon s at before own text h
spot_keeps b Begun s at before own text h = begun_keeps b s at before own text h
spot_keeps b (Inside colon) s at before own text h = inside_keeps b colon s at before own text h
spot_keeps b (Mid line p) s at before own text h = after_keeps b line p (part_step p s) s at before own text h (part_keeps p s h.ss h.read)
spot_keeps b AfterEnd s at before own text h = after_end_keeps b s at before own text h

-- what was read stays true with each token
token_keeps : (st : ReadSoFar) (t : Terminal) (ts : List Terminal) → IsReadFrom st ts → IsReadFrom (read_step st t) (ts ++ t ∷ [])
token_keeps (Outside raw) t ts h = outside_keeps raw t.symbol t.line ts h
token_keeps (InGlobal globals line name) t ts h = in_global_keeps globals line name t.symbol t.line ts h
token_keeps (In b spot) t ts h = subst (λ (l : List Terminal). IsReadFrom (spot_step b spot t.symbol t.line) l)
    (sym (ap (λ (l : List Terminal). l ++ t ∷ []) h.is ∙ append_assoc h.before h.own (t ∷ [])))
    (spot_keeps b spot t.symbol t.line h.before h.own h.text h.at)
token_keeps (Stopped line) t ts h = tt

-- what a state has read, with more tokens
pub tokens_keep : (st : ReadSoFar) (ts us : List Terminal) → IsReadFrom st ts → IsReadFrom (fold read_step st us) (ts ++ us)
tokens_keep st ts [] h = subst (λ (l : List Terminal). IsReadFrom st l) (sym (append-nil ts)) h
tokens_keep st ts (u ∷ us) h = subst (λ (l : List Terminal). IsReadFrom (fold read_step (read_step st u) us) l) (append_assoc ts (u ∷ []) us) (tokens_keep (read_step st u) (ts ++ u ∷ []) us (token_keeps st u ts h))

-- what is read outside a unit is a text
pub reads_keeps : (ts : List Terminal) → IsReadFrom (reads ts) ts
reads_keeps ts = tokens_keep (Outside (globals_alone [])) [] ts no_unit
