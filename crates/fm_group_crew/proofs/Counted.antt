-- What a crew's counts and its reading come to, where nobody else changes the table or the records.
use Rattle.std.proofs.Common.{◌≡◌, ℕ, ◌<◌, List, [], ◌∷◌, ap, subst, arith, Result, Ok, Err}
use Rattle.fm_base_lists.proofs.Each.{all_split}
use Rattle.fm_base.{specs.{declared.{caller.Caller.{Caller}, refusal.Refusal.{Refusal, TheVariants.{TableFull}}}, Calls.{Entry}, Histories.{IsLegal, made_by, state_after}}, proofs.Making.{IsLegal-split}}
use Rattle.fm_rule_facts.specs.Views.{IsSound, View, limit_of, state_in}
use Rattle.fm_rule_calls.proofs.Going.{reached_by}
use Rattle.fm_group_lists.specs.Groups.{Group}
use Rattle.fm_group.specs.{Reading.{DoesReadGroups}, Table.{CanTable, Counter}, Values.{count_of}}
use Rattle.fm_group_laws.{specs.{Shares.{AreCounting, IsElsewhere, NobodyElseCounts}}, proofs.{Behind.{groups_read}, Crewing.{is_never_full}}}
use Rattle.fm_workers_crew.specs.Crew.{CrewGathered, callers}
use Rattle.fm_group_crew.specs.{Dealt.{dealt}, Ends.{Concludes, first_end}, Grouped.{AreAllRead, AreTheGroups, IsCounted, IsFree, IsNeverFull}}
use Rattle.fm_group_crew.proofs.{AllRead.{read_before, shared_read}, Dealt.{dealt_lined}, Concluding.{concluded_ok, none_refused, refused_among, sole_others}}

module _ (w : Counter) (can : CanTable w) (threads : ℕ) (some : 0 < threads) (old new : View) (crew : CrewGathered old new) (sound : IsSound new) where
  abbrev crew_of : List Caller
  crew_of = callers crew.crew

  legal : IsLegal (limit_of old.shape) (state_in old) crew.more
  legal = (reached_by {p = old} {q = new} crew.more crew.seen (ap (λ (v : View). v.shape) crew.is) sound).legal

  module _ (result : Result (List Group) Refusal) (h : IsCounted w threads crew_of crew.more result) where
    legal_parts : IsLegal (limit_of old.shape) (state_in old) h.before
        × IsLegal (limit_of old.shape) (state_after (limit_of old.shape) (state_in old) h.before) h.behind
    legal_parts = IsLegal-split (limit_of old.shape) (state_in old) h.before h.behind
        (subst (λ (es : List Entry). IsLegal (limit_of old.shape) (state_in old) es) h.parts legal)

    others_parts : NobodyElseCounts w crew_of crew.more → NobodyElseCounts w crew_of h.before × NobodyElseCounts w crew_of h.behind
    others_parts nobody = all_split _ h.before h.behind (subst (NobodyElseCounts w crew_of) h.parts nobody)

    counting : IsFree old w → NobodyElseCounts w crew_of crew.more
        → AreCounting (limit_of old.shape) (state_in old) w h.before crew_of (dealt (count_of w.values) threads) h.ends
    counting free nobody = record {
      can = can;
      legal = legal_parts.0;
      apart = crew.distinct;
      shares = h.each;
      lined = dealt_lined (count_of w.values) threads some;
      others = (others_parts nobody).0;
      no_claim = λ p within. (free p within).0;
      no_count = λ p within. (free p within).1;
    }

    -- A place for each value is enough.
    pub never_full : IsNeverFull old w crew_of crew.more result
    never_full free nobody room full =
        is_never_full (limit_of old.shape) (state_in old) w h.before crew_of (dealt (count_of w.values) threads) h.ends (counting free nobody) room
        (refused_among h.ends TableFull (stopped (first_end h.ends) result h.last.goes full))
      where
        stopped : (end : Result (Unit {0}) Refusal) (r : Result (List Group) Refusal) → Concludes w end r h.last.last (made_by h.last.last h.behind)
            → r ≡ Err TableFull → end ≡ Err TableFull
        stopped (Ok u) r d e =
            absurd (subst (λ (x : Result (List Group) Refusal). DoesReadGroups h.last.last w x (made_by h.last.last h.behind)) e d)
        stopped (Err q) r d e = cc

  module _ (gs : List Group) (h : IsCounted w threads crew_of crew.more (Ok gs)) where
    ended : first_end h.ends ≡ Ok tt
    ended = concluded_ok h.last.last w (first_end h.ends) gs (made_by h.last.last h.behind) h.last.goes

    reading : DoesReadGroups h.last.last w (Ok gs) (made_by h.last.last h.behind)
    reading = subst (λ (end : Result (Unit {0}) Refusal). Concludes w end (Ok gs) h.last.last (made_by h.last.last h.behind)) ended h.last.goes

    -- They are the groups of all numbers.
    pub the_groups : AreTheGroups old w crew_of crew.more gs
    the_groups free nobody =
        let behind = (others_parts (Ok gs) h nobody).1 in
        let alone : NobodyElseCounts w (h.last.last ∷ []) h.behind =
        sole_others (λ e. IsElsewhere w e.call) h.last.others h.last.last h.behind h.last.quiet
        (subst (λ (cs : List Caller). NobodyElseCounts w cs h.behind) h.last.are behind) in
        groups_read (limit_of old.shape) (state_in old) w h.before h.behind crew_of (dealt (count_of w.values) threads) h.ends h.last.last gs
        (counting (Ok gs) h free nobody) (none_refused h.ends ended) (legal_parts (Ok gs) h).1 alone reading

    -- Each word of each value was read.
    pub all_read : AreAllRead w.values crew_of crew.more
    all_read n word below i =
        read_before w.values crew_of word h.before h.behind crew.more h.parts
        (shared_read w h.before 0 (count_of w.values) crew_of (dealt (count_of w.values) threads) h.ends h.each (dealt_lined (count_of w.values) threads some)
        (none_refused h.ends ended) n word (omega arith) below i)
