-- What the texts of forms have for consequences, on which the objects rest.
use Rattle.std.specs.Prelude.{◌≡◌, ◌↔◌, ℕ, List, length}
use Rattle.log_node.specs.declared.forms.Form.{Form}
use Rattle.log_node.specs.Texts.{IsTextLength}
use Rattle.object_form.specs.Forms.{IsForm, form_text, HasText, IsReading}
use Rattle.object_form.specs.Readings.{form_of}

-- no two forms have one text
abbrev pub TextsDiffer : Type 0
TextsDiffer = (form other : Form) (text : List ℕ) → HasText form text → HasText other text → form ≡ other

-- a text is read as one form: as the one that is computed of it, and as no other
abbrev pub ReadsAsOne : Type 0
ReadsAsOne = (text : List ℕ) (form : Form) → IsReading text form ↔ (form_of text ≡ form)

-- what is written of a form is read as this form
abbrev pub ReadsBack : Type 0
ReadsBack = (form : Form) → IsForm form → form_of (form_text form) ≡ form

-- the text of a form is one that a node may have
abbrev pub FormsFit : Type 0
FormsFit = (form : Form) → IsForm form → IsTextLength (length (form_text form))
