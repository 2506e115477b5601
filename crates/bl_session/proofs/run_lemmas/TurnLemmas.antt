-- A history is read on, part by part.
use Rattle.std.proofs.Common.{◌≡◌, ◌≢◌, ◌⊎◌, ℕ, ◌==◌, Bool, true, false, if◌then◌else◌, List, []}
use Rattle.std.proofs.Common.{◌∷◌, ◌++◌, length, refl, sym, ap, subst, ◌∙◌, append_assoc, inl, inr}
use Rattle.std.proofs.lemmas.List.{append-nil}
use Rattle.bl_stage.specs.Files.{File}
use Rattle.bl_session.specs.declared.session.outcome.Progress.TheVariants.{Waiting, Next}
use Rattle.bl_session.specs.session.BootSteps.{BootFacts, State, unstarted, running}
use Rattle.bl_store.specs.Events.{EventFacts}
use Rattle.bl_session.specs.session.BootSteps.{handed_over}
use Rattle.bl_session.specs.session.BootSteps.{none_left, out_of_memory, is_running, attempt_number}
use Rattle.bl_session.specs.session.BootSteps.{progress}
use Rattle.bl_session.specs.session.BootSteps.{StepsToOrFails}
use Rattle.bl_store.specs.History.{HistoryItem}
use Rattle.bl_session.specs.session.Submissions.{attempt_submissions, new_submissions}
use Rattle.bl_session.specs.runs.Run.{RunState, run_state_of, ItemsLeadTo, IsEventOf}
use Rattle.bl_session.specs.internal.session.Submitted.{AreAskedButRest}
use Rattle.bl_session.specs.internal.runs.RunParts.{LeadsOn, HistoryLeadsOn}

pub leads_on : (facts : BootFacts) (files : List File) (given : List HistoryItem) (a b c : RunState)
    (xs ys : List HistoryItem)
    → LeadsOn facts files given a xs b → LeadsOn facts files (given ++ xs) b ys c
    → LeadsOn facts files given a (xs ++ ys) c
leads_on facts files given a b c [] ys first later =
    subst (λ (w : RunState). LeadsOn facts files given w ys c) first
    (subst (λ (g : List HistoryItem). LeadsOn facts files g b ys c) (append-nil given) later)
leads_on facts files given a b c (x ∷ xs) ys first later = (
  first.0,
  first.1,
  leads_on facts files (given ++ x ∷ []) first.0 b c xs ys first.2
      (subst (λ (g : List HistoryItem). LeadsOn facts files g b ys c)
      (sym (append_assoc given (x ∷ []) xs)) later),
)

pub heard_none : (facts : BootFacts) (files : List File) (given : List HistoryItem)
    (run_state : RunState)
    → HistoryLeadsOn facts files given given run_state run_state
heard_none facts files given run_state =
    record { gained = []; given = sym (append-nil given); leads = refl }

pub heard_on : (facts : BootFacts) (files : List File) (old mid new : List HistoryItem)
    (a b c : RunState)
    → HistoryLeadsOn facts files old mid a b → HistoryLeadsOn facts files mid new b c
    → HistoryLeadsOn facts files old new a c
heard_on facts files old mid new a b c first later = record {
  gained = first.gained ++ later.gained;
  given =
      later.given ∙ ap (λ (g : List HistoryItem). g ++ later.gained) first.given
      ∙ append_assoc old first.gained later.gained;
  leads = leads_on facts files old a b c first.gained later.gained first.leads
      (subst (λ (g : List HistoryItem). LeadsOn facts files g b later.gained c) first.given
      later.leads);
}

-- ---- what is owed is asked for

owed_leads : (facts : BootFacts) (files : List File) (given : List HistoryItem) (state : State)
    (asked rest : List HistoryItem)
    → LeadsOn facts files given (record { state = state; owed = asked ++ rest }) asked
    (record { state = state; owed = rest })
owed_leads facts files given state [] rest = refl
owed_leads facts files given state (order ∷ asked) rest = (
  record { state = state; owed = asked ++ rest },
  (refl, refl),
  owed_leads facts files (given ++ order ∷ []) state asked rest,
)

pub heard_asked : (facts : BootFacts) (files : List File) (old new : List HistoryItem)
    (state : State)
    (owed rest : List HistoryItem) → AreAskedButRest owed rest old new
    → HistoryLeadsOn facts files old new (record { state = state; owed = owed })
    (record { state = state; owed = rest })
heard_asked facts files old new state owed rest a = record {
  gained = a.asked;
  given = a.given;
  leads =
      subst
      (λ (l : List HistoryItem).
      LeadsOn facts files old (record { state = state; owed = l }) a.asked
      (record { state = state; owed = rest })) (sym a.all)
      (owed_leads facts files old state a.asked rest);
}

pub heard_orders : (facts : BootFacts) (files : List File) (old new : List HistoryItem)
    (state : State)
    → new ≡ old ++ attempt_submissions facts state
    → HistoryLeadsOn facts files old new (run_state_of facts state) (record { state = state; owed = [] })
heard_orders facts files old new state e =
    heard_asked facts files old new state (attempt_submissions facts state) []
    (record {
      asked = attempt_submissions facts state;
      all = sym (append-nil (attempt_submissions facts state));
      given = e;
    })

-- ---- one answer

pub heard_answer : (facts : BootFacts) (files : List File) (old new : List HistoryItem)
    (state later : State) (item : HistoryItem) (event : EventFacts) → new ≡ old ++ item ∷ []
    → IsEventOf files old state item event → StepsToOrFails facts state event later
    → HistoryLeadsOn facts files old new (record { state = state; owed = [] })
    (record { state = later; owed = new_submissions facts state later })
heard_answer facts files old new state later item event given is step = record {
  gained = item ∷ [];
  given = given;
  leads = (
    record { state = later; owed = new_submissions facts state later },
    (event, is, step, refl),
    refl,
  );
}

-- ---- the end of a reading

pub reads_to : (facts : BootFacts) (files : List File) (given : List HistoryItem) (a b : RunState)
    (items : List HistoryItem) (end : State) → LeadsOn facts files given a items b
    → (end ≡ b.state) ⊎ ((end ≡ out_of_memory) × (is_running b.state ≡ true))
    → ItemsLeadTo facts files given a items end
reads_to facts files given a b [] end leads (inl is) =
    inl (is ∙ ap (λ (w : RunState). w.state) leads)
reads_to facts files given a b [] end leads (inr (lost, runs)) =
    inr (lost, subst (λ (w : RunState). is_running w.state ≡ true) leads runs)
reads_to facts files given a b (item ∷ items) end leads is =
    (leads.0, leads.1, reads_to facts files (given ++ item ∷ []) leads.0 b items end leads.2 is)

-- ---- what is owed after a step, by its answer

none_if : (b : Bool) (none : List HistoryItem) → none ≡ [] → (if b then [] else none) ≡ none
none_if true none e = sym e
none_if false none e = refl

no_orders : (b : Bool) (n : ℕ) (all : List HistoryItem) → (if b then Waiting else Next n) ≡ Waiting
    → (if b then [] else all) ≡ []
no_orders true n all e = refl
no_orders false n all e = absurd cc

all_orders : (b : Bool) (n : ℕ) (all : List HistoryItem) → (if b then Waiting else Next n) ≢ Waiting
    → (if b then [] else all) ≡ all
all_orders true n all e = absurd (e refl)
all_orders false n all e = refl

-- the attempt goes on
pub owed_same : (facts : BootFacts) (old new : State) → progress (attempt_number old) new ≡ Waiting
    → new_submissions facts old new ≡ []
owed_same facts old unstarted e = none_if (attempt_number unstarted == attempt_number old) [] refl
owed_same facts old (running entry rest earlier files) e =
    no_orders (length earlier == attempt_number old) (length earlier)
    (attempt_submissions facts (running entry rest earlier files)) e
owed_same facts old (handed_over entry earlier handover) e = absurd cc
owed_same facts old (none_left earlier) e = absurd cc
owed_same facts old out_of_memory e = absurd cc

-- the next one begins, or none does
pub owed_next : (facts : BootFacts) (old new : State) → progress (attempt_number old) new ≢ Waiting
    → new_submissions facts old new ≡ attempt_submissions facts new
owed_next facts old unstarted e = none_if (attempt_number unstarted == attempt_number old) [] refl
owed_next facts old (running entry rest earlier files) e =
    all_orders (length earlier == attempt_number old) (length earlier)
    (attempt_submissions facts (running entry rest earlier files)) e
owed_next facts old (handed_over entry earlier handover) e =
    none_if (length earlier == attempt_number old) [] refl
owed_next facts old (none_left earlier) e = none_if (length earlier == attempt_number old) [] refl
owed_next facts old out_of_memory e =
    none_if (attempt_number out_of_memory == attempt_number old) [] refl
