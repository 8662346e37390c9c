-- The names that the proofs take from elsewhere.
pub use Rattle.std.proofs.Common.{◌≡◌, Bool, true, false, cond, not, ◌||◌, List, [], ◌∷◌, ◌++◌, refl, sym, ◌∙◌, ap, subst, inl, inr, Some}
pub use Rattle.std.proofs.Common.{None, ℕ, ◌+◌, ◌≤◌, ◌==◌, length, take, arith, Option, length-append, ◌<◌, drop, zero-add, append_assoc}
pub use Rattle.std.proofs.Common.{length-drop, ℤ, get_or, map, append-nil, zip, zero, suc, add-one, ◌⊎◌, ◌≢◌, length-take, pos, ◌≤ℤ◌, ◌<ℤ◌}
pub use Rattle.std.proofs.Common.{SFits, to_z, of_z, vec_capacity, rules, ◌-◌, take-append-drop}
pub use Rattle.std.proofs.Math.Seq.{take-add, drop-append_seam, take-append_seam}
pub use Rattle.std.proofs.lemmas.Bool.{cases_Bool, cond-true, cond-false, or_parts, cases_eq, eq-eqb, ne_eqb, cases_lt, and_right, le-ltb}
pub use Rattle.std.proofs.lemmas.{Bool.ltb-false, Int.ints, Int.to_z-of_z, List.nil_from_length, Result.on_err_weaker}
pub use Rattle.std.proofs.lemmas.List.{take_all, map-append, take_more, take-append-le, take-take, length-take-le, take_rest}
pub use Rattle.std.proofs.lemmas.List.Elements.{All-more, All-nil, All-cons}
pub use Rattle.std.proofs.lemmas.Option.{IfSome_then, slice_get_within, get_or_from_slice_get, slice_get_read}
pub use Rattle.std.specs.{Int.w32, List.take-map, List.AllByRecursion, Prelude.IfErr, Prelude.nat_lt}
pub use Rattle.std.specs.Prelude.{Result, Ok, Err, All, IsSome, IsSomeAnd, IfSome, option_map, OnErr, IsTrue, IsErrOf, OnOk, slice_get}
pub use mir.Syntax.{w64}
pub use Rattle.nl_fields.{proofs.HeaderLemmas.version_five-plain, specs.declared.entry.Entry.Entry, specs.declared.entry.Stamp.Stamp}
pub use Rattle.nl_fields.specs.{EntryLine.IsEntry, EntryLine.line_of, Header.version_five, Header.header_line, Limits.max_entry_line}
pub use Rattle.nl_fields.specs.Stamps.{stamped}
pub use Rattle.nl_lines.proofs.NewlineLemmas.{adds_no_line, keeps_lines, no_rest, take-whole_len, no_whole_line, ends_whole}
pub use Rattle.nl_lines.proofs.PrefixLemmas.{prefix_itself, prefix_nil, prefix_push, prefix_trans, prefix_take, plain_prefix, prefix_joins}
pub use Rattle.nl_lines.proofs.PrefixLemmas.{prefix_more, prefix_of, prefix_length, prefix_split, line_prefix}
pub use Rattle.nl_lines.proofs.{NewlineLemmas.prefix-whole_len, NewlineLemmas.joined-ends, SplitLemmas.lines_of-plain}
pub use Rattle.nl_lines.{specs.Lines.max_log, specs.Prefix.IsPrefix, specs.Source.FailedBetween, proofs.SplitLemmas.whole_len-torn_len}
pub use Rattle.nl_lines.specs.Split.{NoNewline, joined, lines_of, whole_len, EndsInNewline, with_newline, torn_len}
pub use Rattle.nl_table.proofs.HistoryLemmas.{counts-logged, table-enter, plus-push, table-forget, table_without-dead, table-touch}
pub use Rattle.nl_table.proofs.{HistoryLemmas.dead_holds, HistoryLemmas.plus-append, LogLemmas.zero_after, LogLemmas.log_of-tail}
pub use Rattle.nl_table.proofs.LoadedLemmas.{loaded_length, loaded_is_log, due_by_counts}
pub use Rattle.nl_table.proofs.LogLemmas.{rest_is_header, log_of-header, log_of-cut, log_of-line, log_of-version, plain_line}
pub use Rattle.nl_table.proofs.{HistoryLemmas.logged-push, LogTextLemmas.log_of-text, LogTextLemmas.table-logged, LogTextLemmas.text-ends}
pub use Rattle.nl_table.proofs.NameLemmas.{distinct-table, named-table_without, without_mtimes-touched}
pub use Rattle.nl_table.proofs.ValidLemmas.{logged_valid, forget_valid}
pub use Rattle.nl_table.specs.{Due.is_due, Due.is_history_due, Loading.IsLoadOf, LogText.text_of, LogText.lines_of_entries}
pub use Rattle.nl_table.specs.{declared.loader.Loaded.Loaded, declared.log_user.KeepList.KeepList, LogUser.dead_names, LogUser.forget_dead}
pub use Rattle.nl_table.specs.{LogUser.is_dead_by}
pub use Rattle.nl_table.specs.History.{Update, History, Then, logged, table, plus, Enter, version, Forget, Touch, total}
pub use Rattle.nl_table.specs.Log.{LogReading, Log, history_of_log, log_of, history_of}
pub use Rattle.nl_table.specs.Table.{AreDistinct, entry_names, touched_table, entry_named, without_mtimes}
pub use Rattle.nl_folder.proofs.ImageLemmas.{visible-IsImage, durable_disk_unique, durable_unique, IsImage_fits, prefix-IsImageOf}
pub use Rattle.nl_folder.proofs.ImageLemmas.{undurable-IsPrefixImageOf}
pub use Rattle.nl_folder.specs.Calls.{log_cut, log_synced, log_grown, GrowsLog, replaced_disk, not_replaced_disk, crashed_disk, Crashes}
pub use Rattle.nl_folder.specs.Calls.{scratch_grown, scratch_synced, GrowsScratch, SyncsScratch}
pub use Rattle.nl_folder.specs.CrashImages.{IsImageOf, IsDisk, IsImage}
pub use Rattle.nl_folder.specs.DiskState.{Disk, durable_disk, empty_file, File, durable_file}
pub use Rattle.nl_session.specs.Answers.{HasCounted, Answered, CallOf, Exchanged, events_of, replies_of, StandsSound}
pub use Rattle.nl_session.specs.Effects.{LeavesOk, LeavesFault, Leaves, Rewrites, RewriteFaults}
pub use Rattle.nl_session.specs.{Grows.EndsClear, Grows.Grew, LogView.LogView, LogView.view_of, LogView.StandsAt, LogView.HasStayed, LogView.StepsBy}
pub use Rattle.nl_session.specs.{Represents.Represents, Represents.Agrees, Represents.RepresentsPrefix, Machine.gained_state}
pub use Rattle.nl_session.specs.{Machine.moved_to, Machine.IsFirstNegative}
pub use Rattle.nl_session.specs.Headline.{Exchange, update_of, makes_durable, is_crash, is_kept, acks, Holds, NoneClears, MayStand}
pub use Rattle.nl_session.specs.Headline.{none, idle, stands, failed, lost, Headline}
pub use Rattle.nl_session.specs.Machine.{CrashesNow, State, durable_at, Act, Records, Step, Run, all_of, Opens, reply_of, shown_of}
pub use Rattle.nl_session.specs.Machine.{history_opened, Recompacts, Restats, StepOk, StepFault, MayHaveGained, NoneNegative, pending_at}
pub use Rattle.nl_session.specs.Opened.{mended_bytes, survivors, opened_bytes_by, opened_bytes, IsLog, OpenedAs, OpensAs, Reopens}
pub use Rattle.nl_session.specs.Opened.{IsAtRest, IsTableOf, StaysAtRest}
pub use Rattle.nl_session.specs.Parts.{OnlyScratch, filled_disk, Appended, IsDurable, RewriteFailed, rewritten_disk, filling_disk}
pub use Rattle.nl_session.specs.Parts.{repaired_disk, RepairFailed, OpenLeaves, OpenFaults, grown_at, GrowsAt}
pub use Rattle.nl_session.specs.Reopening.{Moved, IsCalm, Moves, IsTry, OpenedFrom}
pub use Rattle.nl_session.specs.Runs.{BeginsAt, HeadlineOn, act_of, faults_of, Ran, RestsThrough, OpensAtLast, TakesMemory, HadMemory}
pub use Rattle.nl_session.specs.States.{IsAt, Goes, EdgeDone, EdgeFails, Carries, IsReady, RepresentsState}
pub use Rattle.nl_session.specs.declared.{events.Event.Event, events.Reply.Reply, fault.LogFault.LogFault, fault.LogState.LogState}
pub use Rattle.nl_session.specs.declared.{append.End.End, append.End.TheVariants.Log as OfLog, append.End.TheVariants.Scratch as OfScratch}
pub use Rattle.nl_session.specs.declared.events.Event.TheVariants.{Open as OpenLog, Record, Sync, Recompact, Restat, Stop, Crash}
pub use Rattle.nl_session.specs.declared.events.Reply.TheVariants.{Done, Refused}
pub use Rattle.nl_session.specs.declared.fault.LogFault.TheVariants.{Fault, NotOpen, Broken as BrokenLog, NegativeTime, OutOfMemory}
pub use Rattle.nl_session.specs.declared.fault.LogState.TheVariants.{Closed, Open, Broken as IsBroken}
pub use Rattle.nl_session.specs.Calls.{IsForOpen, IsCounted}
